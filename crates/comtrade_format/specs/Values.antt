-- The value a * x + b of a sample, computed in 64 bits and written at a position in a buffer.
use Rattle.std.specs.Prelude.{◌≡◌, List, ◌++◌, ℕ, ◌+◌, ◌-◌, ◌*◌, ◌/◌, ◌%◌, ◌^◌, ◌≤◌, length, take, ◌<◌, ◌⊎◌, FitsSigned, ℤ, unsigned_abs, ◌+ℤ◌, ◌*ℤ◌}
use Rattle.std.specs.Int.{w64}
use Rattle.comtrade_values.specs.Spelling.{Number}
use Rattle.comtrade_values.specs.Written.{decimal_text}
use Rattle.comtrade_values.specs.Arithmetic.{with_places, places_of, value, number_of, IsTrimmed}
use Rattle.comtrade_format.specs.declared.values.aligned.AlignedScale.{AlignedScale}
use Rattle.comtrade_format.specs.declared.values.aligned.Parts.{Parts}

-- the value of a sample by a scale whose a and b have the same places
abbrev pub aligned_value : AlignedScale → ℤ → Number
aligned_value scale x = number_of (scale.a *ℤ x +ℤ scale.b) scale.places

-- by this scale each sample has the value that it has by a and b
abbrev pub IsAligned : Number → Number → AlignedScale → Type 0
IsAligned a b scale = (x : ℤ) → value a b x ≡ aligned_value scale x

-- with the places of the finer one, which are more than 16, or a or b has more than 64 bits
abbrev pub IsUnaligned : Number → Number → Type 0
IsUnaligned a b = (16 < places_of a b)
    ⊎ ((FitsSigned w64 (with_places (places_of a b) a).units → ⊥) ⊎ (FitsSigned w64 (with_places (places_of a b) b).units → ⊥))

-- what stands before the point of n / 10 ^ places, and what after it as sixteen places
pub record ArePartsOf (n places : ℕ) (parts : Parts) : Type 0 where
  pub few : parts.before < 100000000
  pub before : parts.before ≡ n / 10 ^ places
  pub after : parts.after ≡ n % 10 ^ places * 10 ^ (16 - places)

-- at most 16 places and 8 digits before the point, and 26 bytes from `at` on
pub record CanWrite (slot : List ℕ) (at : ℕ) (n : Number) : Type 0 where
  pub places : n.places ≤ 16
  pub before : unsigned_abs n.units / 10 ^ n.places < 100000000
  pub room : at + 26 ≤ length slot

-- product and sum have 64 bits each
abbrev pub HasUnits : AlignedScale → ℤ → Type 0
HasUnits scale x = FitsSigned w64 (scale.a *ℤ x) × FitsSigned w64 (scale.a *ℤ x +ℤ scale.b)

-- the value of a sample is computed in 64 bits, and written
abbrev pub CanWriteSample : List ℕ → ℕ → AlignedScale → ℤ → Type 0
CanWriteSample slot at scale x = HasUnits scale x × CanWrite slot at (aligned_value scale x)

-- the text of the number without zeros at its end is put after what stood before `at`
pub record WritesValue (old new : List ℕ) (at end : ℕ) (n : Number) : Type 0 where
  pub shown : Number
  pub trimmed : IsTrimmed n shown
  pub within : end ≤ length new
  pub text : take end new ≡ take at old ++ decimal_text shown
