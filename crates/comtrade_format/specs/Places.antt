-- The places of a value that are shown: those up to the last that isn't 0.
use Rattle.std.specs.Prelude.{◌≡◌, ◌≢◌, List, [], ◌∷◌, ◌++◌, ℕ, zero, suc, ◌+◌, ◌-◌, ◌/◌, ◌%◌, ◌^◌, ◌≤◌, take}
use Rattle.comtrade_values.specs.Written.{padded}

-- of so many digits of n, zeros in front among them, the first k are those up to the last that isn't 0
pub record IsShown (digits n k : ℕ) : Type 0 where
  pub within : k ≤ digits
  pub zeros : n % 10 ^ (digits - k) ≡ 0
  pub last : k ≢ 0 → n / 10 ^ (digits - k) % 10 ≢ 0

-- a point and so many places; nothing where there are none
abbrev pub places_text : ℕ → ℕ → List ℕ
places_text zero n = []
places_text (suc k) n = 46 ∷ padded (suc k) n

-- a point and the shown ones of so many places, whose digits are those of n, are put after what stood before `at`
pub record WritesPlaces (old new : List ℕ) (at end digits n : ℕ) : Type 0 where
  pub count : ℕ
  pub shown : IsShown digits n count
  pub longest : end ≤ at + (digits + 1)
  pub text : take end new ≡ take at old ++ places_text count (n / 10 ^ (digits - count))
