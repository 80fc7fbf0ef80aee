-- What is measured of a channel over whole cycles.
use Rattle.std.specs.Prelude.{◌≡◌, ℕ, ◌<◌, ◌++◌, ℤ, List, length, drop, slice_get, Some}
use Rattle.std.specs.Float.{Float}
use Rattle.comtrade_format.specs.Parts.{HeadParts}
use Rattle.comtrade_format.specs.Cycles.{Lasts}
use Rattle.comtrade_format.specs.declared.file.Rate.{Rate}
use Rattle.comtrade_format.specs.declared.values.cycle.Cycle.{Cycle}
use Rattle.comtrade_analysis.specs.Fits.{orders_in}
use Rattle.comtrade_analysis.specs.Sums.{present}
use Rattle.comtrade_c.specs.Measures.{column}

-- as many samples as rows: -2^31 stands for a missing one
abbrev pub HasAll : List ℤ → Type 0
HasAll xs = length (present (column xs) 0 0 (length (column xs))) ≡ length (column xs)

-- a cycle of the line frequency at the rate of this index
pub record IsCycleAt (h : HeadParts) (rate : ℕ) (cycle : Cycle) : Type 0 where
  pub r : Rate
  pub at : slice_get h.rates rate ≡ Some r
  pub lasts : Lasts h.line_freq r.samp cycle.cycles cycle.rows
  pub some : 0 < cycle.cycles

-- so many orders are measured at the rate of this index
pub record HasOrders (h : HeadParts) (rate n : ℕ) : Type 0 where
  pub cycle : Cycle
  pub at_rate : IsCycleAt h rate cycle
  pub orders : n ≡ orders_in cycle

-- more orders than this
abbrev pub HasMore : HeadParts → ℕ → ℕ → Type 0
HasMore h rate room = (n : ℕ) × HasOrders h rate n × (room < n)

-- so many numbers stand in front of what stood after them in the table
abbrev pub IsPut : ℕ → List Float → List Float → Type 0
IsPut n before after = (xs : List Float) × (length xs ≡ n) × (after ≡ xs ++ drop n before)
