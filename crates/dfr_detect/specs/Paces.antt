-- What a detector of the frequency keeps of the samples since the last gap.
use Rattle.std.specs.Prelude.{◌≡◌, ◌≤◌, ◌<◌, ◌^◌, ℕ, ℤ, pos, ◌+◌, ◌-◌, min, sum, unsigned_abs, Bool, true, false, ◌&&◌, ◌||◌, int_lt, nat_lt, nat_le, if◌then◌else◌, List, [], ◌∷◌, take, drop, length, slice_get, Some, None}
use Rattle.std.specs.List.{All}
use Rattle.circular_buffer.specs.Buffer.{Buffer, buffer}
use Rattle.dfr_detect.specs.Windows.{ago}
use Rattle.dfr_detect.specs.Crossings.{dips, since_zero, crossings, scans_time, age, cycles_before, compares}
use Rattle.dfr_detect.specs.declared.settings.FrequencyTest.{FrequencyTest}

-- whether the half wave dips; the size of the newest sample; the age of the newest crossing, and the times from crossing to crossing, each
-- `far` where it is longer or there is none
pub record Pace : Type 0 where
  pub least : ℕ
  pub far : ℕ
  pub dips : Bool
  pub last : ℕ
  pub age : ℕ
  pub newer : Buffer ℕ
  pub older : Buffer ℕ

abbrev pub pace_by : ℕ → ℕ → Bool → ℕ → ℕ → Buffer ℕ → Buffer ℕ → Pace
pace_by least far dips last age newer older = record { least = least; far = far; dips = dips; last = last; age = age; newer = newer; older = older }

-- the times between ages, with `far` after the last
abbrev pub spans : ℕ → List ℕ → List ℕ
spans far [] = []
spans far (a ∷ []) = far ∷ []
spans far (a ∷ b ∷ ages) = min far (b - a) ∷ spans far (b ∷ ages)

-- what is kept of the samples
abbrev pub paced : FrequencyTest → ℕ → List ℤ → Pace
paced t n samples =
    let ages = crossings t.least samples in
    let far = scans_time n + 1 in
    let times = spans far ages in
    pace_by t.least far (dips t.least samples) (unsigned_abs (ago 0 samples)) (min far (age n 0 ages)) (buffer (take t.cycles times) t.cycles)
    (buffer (take (cycles_before t) (drop t.cycles times)) (cycles_before t))

-- nothing
abbrev pub no_pace : ℕ → ℕ → ℕ → ℕ → Pace
no_pace least n newer older = pace_by least (scans_time n + 1) false 0 (scans_time n + 1) (buffer [] newer) (buffer [] older)

abbrev pub pace_gone : Pace → Pace
pace_gone p = pace_by p.least p.far false 0 p.far (buffer [] p.newer.capacity) (buffer [] p.older.capacity)

-- an item more, and the one that leaves
abbrev pub pushed : ℕ → Buffer ℕ → Buffer ℕ
pushed x b = buffer (take b.capacity (x ∷ b.items)) b.capacity

abbrev pub pushed_from : Buffer ℕ → ℕ → Buffer ℕ → Buffer ℕ
pushed_from newer x older = elim (slice_get (x ∷ newer.items) newer.capacity) [ Some y ↦ pushed y older | None ↦ older ]

-- after a sample at which there is no crossing
abbrev pub pace_on : Pace → ℤ → Pace
pace_on p x = pace_by p.least p.far (int_lt x (pos 0) && (nat_le p.least (unsigned_abs x) || p.dips)) (unsigned_abs x) (min p.far (p.age + 65_536)) p.newer p.older

-- and at one
abbrev pub pace_crossed : Pace → ℕ → Pace
pace_crossed p x =
    let since = since_zero x p.last in
    let span = min p.far (p.age + 65_536 - since) in
    pace_by p.least p.far false x since (pushed span p.newer) (pushed_from p.newer span p.older)

abbrev pub pace_after : Pace → ℤ → Pace
pace_after p x = if int_lt x (pos 0) then pace_on p x else if p.dips then pace_crossed p (unsigned_abs x) else pace_on p x

-- the cycles that are looked at lie in the last scans and meet the level
abbrev pub pace_meets : FrequencyTest → ℕ → Pace → Bool
pace_meets t level p = nat_lt (p.age + sum p.newer.items + sum p.older.items) p.far && compares t.test t level (sum p.newer.items) (sum p.older.items)

-- a time of cycles, or `far`
abbrev pub IsTime : ℕ → Type 0
IsTime time = time ≤ 2 ^ 33

pub record IsTimes (times : List ℕ) (places : ℕ) (total : ℕ) : Type 0 where
  pub summed : total ≡ sum times
  pub small : All IsTime times
  pub few : length times ≤ places
  pub bounded : places ≤ 64

pub record IsPace (far : ℕ) (dips : Bool) (last : ℕ) (age : ℕ) : Type 0 where
  pub some : 65_536 < far
  pub bounded : far ≤ 2 ^ 32 + 1
  pub deep : dips ≡ true → 1 ≤ last
  pub small : last ≤ 2 ^ 39
  pub near : age ≤ far
