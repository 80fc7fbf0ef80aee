-- The root of a mean square, rounded down.
use Rattle.std.specs.Prelude.{◌≡◌, ◌≢◌, ℕ, ◌+◌, ◌-◌, ◌*◌, ◌^◌, ◌≤◌, ◌<◌, ◌⊎◌, pos, unsigned_abs, Option, Some, None}
use Rattle.comtrade_values.specs.Spelling.{Number}
use Rattle.comtrade_analysis.specs.Wide.{number}
use Rattle.comtrade_analysis.specs.declared.mean_square.MeanSquare.{MeanSquare}

-- the mean square is number m.sum / parts m
abbrev pub parts : MeanSquare → ℕ
parts m = m.count * 100 ^ m.places

-- the mean square in units of 100 ^ -places, rounded down
pub record IsFloor (m : MeanSquare) (places square : ℕ) : Type 0 where
  pub below : square * parts m ≤ number m.sum * 100 ^ places
  pub next : number m.sum * 100 ^ places < (square + 1) * parts m

-- the greatest number of its places whose square is at most the mean square
pub record IsRoot (m : MeanSquare) (d : Number) : Type 0 where
  pub sign : d.units ≡ pos (unsigned_abs d.units)
  pub below : unsigned_abs d.units * unsigned_abs d.units * parts m ≤ number m.sum * 100 ^ d.places
  pub next : number m.sum * 100 ^ d.places < (unsigned_abs d.units + 1) * (unsigned_abs d.units + 1) * parts m

-- so many digits or more, and no more places than that takes; zero has no places
pub record HasDigits (m : MeanSquare) (digits : ℕ) (d : Number) : Type 0 where
  pub enough : number m.sum ≢ 0 → 10 ^ (digits - 1) ≤ unsigned_abs d.units
  pub fewest : d.places ≢ 0 → unsigned_abs d.units < 10 ^ digits

-- no number of 80 places has so many digits
abbrev pub IsTooSmall : MeanSquare → ℕ → Type 0
IsTooSmall m digits = (number m.sum ≢ 0) × (number m.sum * 100 ^ 80 < 100 ^ (digits - 1) * parts m)

-- 2 ^ 64 or more
abbrev pub IsTooLarge : MeanSquare → Type 0
IsTooLarge m = 2 ^ 128 * parts m ≤ number m.sum

-- the root with so many digits
abbrev pub IsRootOf : MeanSquare → ℕ → Option Number → Type 0
IsRootOf m digits (Some d) = IsRoot m d × HasDigits m digits d
IsRootOf m digits None = IsTooSmall m digits ⊎ IsTooLarge m
