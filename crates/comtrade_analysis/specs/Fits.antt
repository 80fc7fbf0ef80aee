-- What is measured of a signal over whole cycles.
use Rattle.std.specs.Prelude.{◌≡◌, ℕ, ◌+◌, ◌-◌, ◌/◌, min, ℤ, List}
use Rattle.std.specs.Float.{Float}
use Rattle.comtrade_format.specs.declared.values.cycle.Cycle.{Cycle}
use Rattle.comtrade_format.specs.declared.values.scale.Scale.{Scale}
use Rattle.comtrade_analysis.specs.Peaks.{IsPeak}
use Rattle.comtrade_analysis.specs.Windows.{rows_in}

-- the orders below half the rows of a cycle, at most 25
abbrev pub orders_in : Cycle → ℕ
orders_in cycle = min 25 ((rows_in cycle 1 - 1) / 2)

-- the value farthest from 0, and its row, where the first sample is of this row
pub record IsPeakOf (s : Scale) (xs : List ℤ) (first : ℕ) (value : Float) (row : ℕ) : Type 0 where
  pub index : ℕ
  pub peak : IsPeak s xs (record { value = value; index = index })
  pub row_is : row ≡ first + index
