-- One scan more for a contact: what is kept of a history gives what is kept of the longer one.
use Rattle.std.proofs.Common.{◌≡◌, ◌∙◌, sym, ap, refl, ℕ, zero, suc, ◌+◌, ◌-◌, ◌≤◌, min, Bool, true, false, List, [], ◌∷◌, ◌++◌, length, map, take, Option, Some, None, arith}
use Rattle.std.specs.Prelude.{slice_get, if◌then◌else◌}
use Rattle.comtrade_values.proofs.Lists.{take_again, take_none}
use Rattle.dfr_sequence.specs.Scans.{came}
use Rattle.dfr_sequence.specs.declared.change.Limit.{Limit}
use Rattle.dfr_sequence.specs.Contacts.{Wanted, wanted, Told, Kept, kept, kept_by, kept_of, state, differ, flip, heard, heard_by, told_at, change_at, count, change_of, told_of, is_apart, may_tell, tell, noted, tells, told_by, after_if, after_telling, IsStep}
use Rattle.dfr_sequence.specs.declared.place.Place.{Place}
use Rattle.dfr_sequence.specs.declared.change.Flip.{Flip}
use Rattle.dfr_sequence.specs.declared.change.Change.{Change}

-- the last of n items
last_get : {X : Type 0} (n : ℕ) (xs : List X) → slice_get (take (suc n) xs) n ≡ slice_get xs n
last_get n [] = refl
last_get zero (x ∷ xs) = refl
last_get (suc n) (x ∷ xs) = last_get n xs

last_kept : {X : Type 0} (n : ℕ) (xs : List X) → 1 ≤ n → slice_get (take n xs) (n - 1) ≡ slice_get xs (n - 1)
last_kept zero xs h = absurd (omega (arith, h))
last_kept {X = X} (suc n) xs h =
    let e : suc n - 1 ≡ n = omega arith in
    ap (λ (k : ℕ). slice_get (take (suc n) xs) k) e ∙ last_get n xs ∙ sym (ap (λ (k : ℕ). slice_get xs k) e)

-- numbers of 32 bits
capped : (n : ℕ) → min 4_294_967_295 (suc n) ≡ min 4_294_967_295 (min 4_294_967_295 n + 1)
capped n = omega arith

-- a change is noted
noting : (w : Wanted) (place : Place) (on was : Bool) (told : List Told) (waiting : List Flip)
    → kept_of w on told ((if differ on was then flip place on ∷ [] else []) ++ waiting)
    ≡ (if differ on was then kept_by w.channel w.limit on (Some (flip place on)) (min 4_294_967_295 (count waiting + 1)) (take w.limit.most (map (λ t. t.at) told)) else kept_of w was told waiting)
noting w place true true told waiting = refl
noting w place false false told waiting = refl
noting w place true false told waiting = ap (λ (n : ℕ). kept_by w.channel w.limit true (Some (flip place true)) n (take w.limit.most (map (λ t. t.at) told))) (capped (length waiting))
noting w place false true told waiting = ap (λ (n : ℕ). kept_by w.channel w.limit false (Some (flip place false)) n (take w.limit.most (map (λ t. t.at) told))) (capped (length waiting))

-- whether it may be told shows in what is kept
may_same : (w : Wanted) (on : Bool) (told : List Told) (waiting : List Flip) (scan : ℕ) → 1 ≤ w.limit.most → may_tell w.limit told scan ≡ tells (kept_of w on told waiting) scan
may_same w on told waiting scan some =
    ap (λ (earlier : Option ℕ). is_apart w.limit.rate earlier scan) (sym (last_kept w.limit.most (map (λ t. t.at) told) some))

abbrev none_told : Option Change
none_told = None

nothing : (b : Bool) → (if b then none_told else none_told) ≡ none_told
nothing true = refl
nothing false = refl

-- what is told
telling : (w : Wanted) (on : Bool) (told : List Told) (waiting : List Flip) (scan : ℕ) → 1 ≤ w.limit.most → told_of w scan told waiting ≡ told_by (kept_of w on told waiting) scan
telling w on told [] scan some = nothing (may_tell w.limit told scan)
telling w on told (newest ∷ older) scan some =
    ap (λ (may : Bool). if may then change_of w.channel (newest ∷ older) else None) (may_same w on told (newest ∷ older) scan some)

-- what is kept after it
left : (b : Bool) (w : Wanted) (on : Bool) (told : List Told) (newest : Flip) (older : List Flip) (scan : ℕ)
    → kept_of w on (if b then heard_by (told_at scan (newest ∷ older) ∷ told) [] else heard_by told (newest ∷ older)).told (if b then heard_by (told_at scan (newest ∷ older) ∷ told) [] else heard_by told (newest ∷ older)).waiting
    ≡ after_if b (kept_of w on told (newest ∷ older)) scan (Some newest)
left true w on told newest older scan =
    ap (λ (ats : List ℕ). kept_by w.channel w.limit on None 0 ats) (sym (take_again w.limit.most scan (map (λ t. t.at) told)))
left false w on told newest older scan = refl

leaving : (w : Wanted) (on : Bool) (told : List Told) (waiting : List Flip) (scan : ℕ) → 1 ≤ w.limit.most
    → kept_of w on (tell w.limit scan told waiting).told (tell w.limit scan told waiting).waiting ≡ after_telling (kept_of w on told waiting) scan
leaving w on told [] scan some = refl
leaving w on told (newest ∷ older) scan some =
    left (may_tell w.limit told scan) w on told newest older scan
    ∙ ap (λ (may : Bool). after_if may (kept_of w on told (newest ∷ older)) scan (Some newest)) (may_same w on told (newest ∷ older) scan some)

-- both
pub stepped : (old noted_at new : Kept) (place : Place) (bits : List Bool) (told : Option Change)
    → 1 ≤ old.limit.most → noted_at ≡ noted old place bits → told ≡ told_by noted_at place.scan → new ≡ after_telling noted_at place.scan → IsStep old place bits told new
stepped old noted_at new place bits told some is_noted is_told is_left w past e =
    let lim : 1 ≤ w.limit.most = omega (arith, some, ap (λ (k : Kept). k.limit.most) e) in
    let before = heard w past in
    let waiting = change_at w (came place bits) past ++ before.waiting in
    let on = state w (came place bits ∷ past) in
    let known : kept_of w on before.told waiting ≡ noted_at =
    noting w place on (state w past) before.told before.waiting ∙ ap (λ (k : Kept). noted k place bits) e ∙ sym is_noted in (
      telling w on before.told waiting place.scan lim ∙ ap (λ (k : Kept). told_by k place.scan) known ∙ sym is_told,
      leaving w on before.told waiting place.scan lim ∙ ap (λ (k : Kept). after_telling k place.scan) known ∙ sym is_left,
    )

-- no scan has come
pub begun : (channel : ℕ) (limit : Limit) (normal : Bool) (recent : List ℕ) → recent ≡ [] → kept_by channel limit normal None 0 recent ≡ kept (wanted channel limit normal) []
begun channel limit normal recent none = ap (λ (ats : List ℕ). kept_by channel limit normal None 0 ats) (none ∙ sym (take_none limit.most))
