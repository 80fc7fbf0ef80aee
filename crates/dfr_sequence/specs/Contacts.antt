-- Which changes of a contact are told. A history has the scans that came, the newest first.
use Rattle.std.specs.Prelude.{◌≡◌, ℕ, ◌+◌, ◌-◌, min, Bool, true, false, if◌then◌else◌, nat_le, Option, Some, None, List, [], ◌∷◌, ◌++◌, length, map, take, slice_get, slice_index_or}
use Rattle.dfr_sequence.specs.Scans.{Came, came}
use Rattle.dfr_sequence.specs.declared.place.Place.{Place}
use Rattle.dfr_sequence.specs.declared.change.Flip.{Flip}
use Rattle.dfr_sequence.specs.declared.change.Limit.{Limit}
use Rattle.dfr_sequence.specs.declared.change.Change.{Change}

-- a contact: its channel, its limit, and its normal state
pub record Wanted : Type 0 where
  pub channel : ℕ
  pub limit : Limit
  pub normal : Bool

abbrev pub wanted : ℕ → Limit → Bool → Wanted
wanted channel limit normal = record { channel = channel; limit = limit; normal = normal }

-- its state: that of the newest scan; before the first scan, and while scans have no bit for it, as it was, and at first normal
abbrev pub state : Wanted → List Came → Bool
state w [] = w.normal
state w (now ∷ past) = slice_index_or now.bits w.channel (state w past)

abbrev pub differ : Bool → Bool → Bool
differ true true = false
differ true false = true
differ false true = true
differ false false = false

abbrev pub flip : Place → Bool → Flip
flip place on = record { place = place; on = on }

-- its change at the newest scan, if it has another state than before
abbrev pub change_at : Wanted → Came → List Came → List Flip
change_at w now past =
    let on = state w (now ∷ past) in
    if differ on (state w past) then flip now.place on ∷ [] else []

-- all its changes, the newest first
abbrev pub changes : Wanted → List Came → List Flip
changes w [] = []
changes w (now ∷ past) = change_at w now past ++ changes w past

-- what is told at a scan: the changes since those told before, the newest first
pub record Told : Type 0 where
  pub at : ℕ
  pub flips : List Flip

abbrev pub told_at : ℕ → List Flip → Told
told_at at flips = record { at = at; flips = flips }

-- all that was told, the newest first, and the changes that wait to be told
pub record Heard : Type 0 where
  pub told : List Told
  pub waiting : List Flip

abbrev pub heard_by : List Told → List Flip → Heard
heard_by told waiting = record { told = told; waiting = waiting }

-- a second or more lies between one scan and a later one, if there is the one
abbrev pub is_apart : ℕ → Option ℕ → ℕ → Bool
is_apart rate None scan = true
is_apart rate (Some earlier) scan = nat_le (earlier + rate) scan

-- whether the changes that wait may be told at a scan: fewer than `most` were told in the second up to it
abbrev pub may_tell : Limit → List Told → ℕ → Bool
may_tell l told scan = is_apart l.rate (slice_get (map (λ t. t.at) told) (l.most - 1)) scan

-- changes that wait are told together, as soon as they may be
abbrev pub tell : Limit → ℕ → List Told → List Flip → Heard
tell l scan told [] = heard_by told []
tell l scan told (newest ∷ older) =
    if may_tell l told scan then heard_by (told_at scan (newest ∷ older) ∷ told) [] else heard_by told (newest ∷ older)

abbrev pub heard : Wanted → List Came → Heard
heard w [] = heard_by [] []
heard w (now ∷ past) = tell w.limit now.place.scan (heard w past).told (change_at w now past ++ (heard w past).waiting)

-- so many changes, as a number of 32 bits
abbrev pub count : List Flip → ℕ
count flips = min 4_294_967_295 (length flips)

-- what is told of them: the newest, and how many they are
abbrev pub change_of : ℕ → List Flip → Option Change
change_of channel [] = None
change_of channel (newest ∷ older) = Some (record { channel = channel; flip = newest; count = count (newest ∷ older) })

-- what is told of a contact at the newest scan
abbrev pub told_of : Wanted → ℕ → List Told → List Flip → Option Change
told_of w scan told waiting = if may_tell w.limit told scan then change_of w.channel waiting else None

abbrev pub told_now : Wanted → Came → List Came → Option Change
told_now w now past = told_of w now.place.scan (heard w past).told (change_at w now past ++ (heard w past).waiting)

-- what a contact keeps of a history: its state, the newest change that waits, how many wait, the scans at which changes were told last
pub record Kept : Type 0 where
  pub channel : ℕ
  pub limit : Limit
  pub on : Bool
  pub newest : Option Flip
  pub count : ℕ
  pub recent : List ℕ

abbrev pub kept_by : ℕ → Limit → Bool → Option Flip → ℕ → List ℕ → Kept
kept_by channel limit on newest count recent = record { channel = channel; limit = limit; on = on; newest = newest; count = count; recent = recent }

abbrev pub first_of : List Flip → Option Flip
first_of [] = None
first_of (newest ∷ older) = Some newest

abbrev pub kept_of : Wanted → Bool → List Told → List Flip → Kept
kept_of w on told waiting = kept_by w.channel w.limit on (first_of waiting) (count waiting) (take w.limit.most (map (λ t. t.at) told))

abbrev pub kept : Wanted → List Came → Kept
kept w past = kept_of w (state w past) (heard w past).told (heard w past).waiting

-- for every history of which `old` is kept, this is told at the next scan, and `new` is kept after it
abbrev pub IsStep : Kept → Place → List Bool → Option Change → Kept → Type 0
IsStep old place bits told new =
    (w : Wanted) (past : List Came) → kept w past ≡ old → (told_now w (came place bits) past ≡ told) × (kept w (came place bits ∷ past) ≡ new)

-- what a call keeps of what is kept and the bits of a scan more
abbrev pub noted : Kept → Place → List Bool → Kept
noted k place bits =
    let on = slice_index_or bits k.channel k.on in
    if differ on k.on then kept_by k.channel k.limit on (Some (flip place on)) (min 4_294_967_295 (k.count + 1)) k.recent else k

-- whether it tells what waits
abbrev pub tells : Kept → ℕ → Bool
tells k scan = is_apart k.limit.rate (slice_get k.recent (k.limit.most - 1)) scan

abbrev pub told_if : Bool → Kept → Option Flip → Option Change
told_if may k None = None
told_if may k (Some newest) = if may then Some (record { channel = k.channel; flip = newest; count = k.count }) else None

abbrev pub told_by : Kept → ℕ → Option Change
told_by k scan = told_if (tells k scan) k k.newest

abbrev pub after_if : Bool → Kept → ℕ → Option Flip → Kept
after_if may k scan None = k
after_if may k scan (Some newest) = if may then kept_by k.channel k.limit k.on None 0 (take k.limit.most (scan ∷ k.recent)) else k

abbrev pub after_telling : Kept → ℕ → Kept
after_telling k scan = after_if (tells k scan) k scan k.newest
