-- The rows of one rate, and whole cycles of them.
use Rattle.std.specs.Prelude.{◌≡◌, ℕ, ◌+◌, ◌<◌, ◌≤◌, List, length, slice_get, unwrap_or, option_map, IfSome}
use Rattle.comtrade_format.specs.declared.file.Rate.{Rate}
use Rattle.comtrade_format.specs.declared.values.cycle.Cycle.{Cycle}
use Rattle.comtrade_values.specs.Spelling.{Number}
use Rattle.comtrade_format.specs.Cycles.{Lasts}
use Rattle.comtrade_analysis.specs.Windows.{rows_in}

-- the number of the last row of a rate
abbrev pub ends_at : List Rate → ℕ → ℕ
ends_at rates rate = unwrap_or (option_map (λ (r : Rate). r.endsamp) (slice_get rates rate)) 0

-- the index of the first row of a rate: 0, or after the last row of the rate before it
pub record Begins (rates : List Rate) (rate from : ℕ) : Type 0 where
  pub first : rate ≡ 0 → from ≡ 0
  pub later : (k : ℕ) → k + 1 ≡ rate → from ≡ ends_at rates k

-- the first rate that reaches to the last of so many rows, and the index of its first row
pub record IsLastStretch (rates : List Rate) (rows rate from : ℕ) : Type 0 where
  pub within : rate < length rates
  pub reaches : rows ≤ ends_at rates rate
  pub first : (k : ℕ) → k < rate → ends_at rates k < rows
  pub begins : Begins rates rate from

-- so many cycles of the frequency last exactly so many rows of this rate
abbrev pub LastsAt : Number → List Rate → ℕ → Cycle → Type 0
LastsAt frequency rates rate cycle = IfSome (slice_get rates rate) (λ (r : Rate). Lasts frequency r.samp cycle.cycles cycle.rows)

-- the rows from this one to the last are of the last row's rate, and the cycle is that of this rate
pub record IsOfLastRate (frequency : Number) (rates : List Rate) (rows from : ℕ) (cycle : Cycle) : Type 0 where
  pub rate : ℕ
  pub begin : ℕ
  pub stretch : IsLastStretch rates rows rate begin
  pub within : begin ≤ from
  pub lasts : LastsAt frequency rates rate cycle

-- all rows are of one rate, and the cycle is that of this rate
pub record IsOfOneRate (frequency : Number) (rates : List Rate) (rows : ℕ) (cycle : Cycle) : Type 0 where
  pub rate : ℕ
  pub stretch : IsLastStretch rates rows rate 0
  pub lasts : LastsAt frequency rates rate cycle

-- the rows of so many whole cycles, at least one
pub record AreCycles (cycle : Cycle) (cycles from to : ℕ) : Type 0 where
  pub some : 0 < cycles
  pub whole : from + rows_in cycle cycles ≡ to
