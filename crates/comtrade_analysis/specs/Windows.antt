-- The rows of whole cycles.
use Rattle.std.specs.Prelude.{ℕ, ◌+◌, ◌-◌, ◌*◌, ◌/◌, ◌≤◌, ◌<◌}
use Rattle.comtrade_format.specs.declared.values.cycle.Cycle.{Cycle}
use Rattle.comtrade_analysis.specs.declared.window.Window.{Window}

-- the whole rows of so many cycles: a fraction of a row is left out
abbrev pub rows_in : Cycle → ℕ → ℕ
rows_in cycle cycles = cycles * cycle.rows / cycle.cycles

-- the rows of so many cycles before a row
abbrev pub window_before : Cycle → ℕ → ℕ → Window
window_before cycle cycles end = record { first = end - rows_in cycle cycles; rows = rows_in cycle cycles }

-- the rows of so many cycles from a row on
abbrev pub window_from : Cycle → ℕ → ℕ → Window
window_from cycle cycles first = record { first = first; rows = rows_in cycle cycles }

-- so many rows last no longer than so many cycles, and one row more would
pub record IsLongest (cycle : Cycle) (cycles rows : ℕ) : Type 0 where
  pub within : rows * cycle.cycles ≤ cycles * cycle.rows
  pub longest : cycles * cycle.rows < (rows + 1) * cycle.cycles
