-- The last samples of a signal. A history has what each scan gave, the newest first: a sample of one signal or of three phases, or
-- none where the sample is missing or the scan is lost.
use Rattle.std.specs.Prelude.{ℕ, ℤ, pos, ◌*◌, unsigned_abs, List, [], ◌∷◌, map, take, slice_index_or, Option, Some, None}
use Rattle.std.specs.List.{sum_by}
use Rattle.dfr_detect.specs.declared.sample.Sample.{Sample}

-- the samples since the last gap, the newest first
abbrev pub since_gap : List (Option Sample) → List Sample
since_gap [] = []
since_gap (None ∷ past) = []
since_gap (Some x ∷ past) = x ∷ since_gap past

-- those of one signal
abbrev pub alone : List Sample → List ℤ
alone samples = map (λ (x : Sample). x.a) samples

-- the last n of them
abbrev pub window : ℕ → List (Option Sample) → List ℤ
window n past = take n (alone (since_gap past))

-- the sample n scans before the newest
abbrev pub ago : ℕ → List ℤ → ℤ
ago n samples = slice_index_or samples n (pos 0)

abbrev pub square : ℤ → ℕ
square x = unsigned_abs x * unsigned_abs x

abbrev pub sum_of_squares : List ℤ → ℕ
sum_of_squares samples = sum_by square samples
