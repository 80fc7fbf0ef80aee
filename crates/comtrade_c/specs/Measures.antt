-- The rows of cycles, and rms values.
use Rattle.std.specs.Prelude.{◌≡◌, ℕ, ◌<◌, ◌≤◌, ℤ, List, [], ◌∷◌, length, map, slice_get, Option, Some, None, Result, Ok, Err}
use Rattle.std.specs.Float.{Float}
use Rattle.dfr_channels.specs.Parts.{AnalogParts}
use Rattle.comtrade_format.specs.Parts.{HeadParts, RowParts}
use Rattle.comtrade_format.specs.Cycles.{Lasts}
use Rattle.comtrade_format.specs.declared.file.Rate.{Rate}
use Rattle.comtrade_format.specs.declared.values.cycle.Cycle.{Cycle}
use Rattle.comtrade_analysis.specs.MeanSquares.{MeanSquareIs}
use Rattle.comtrade_analysis.specs.Rms.{IsRms}
use Rattle.comtrade_analysis.specs.Sums.{present}
use Rattle.comtrade_analysis.specs.Windows.{rows_in}
use Rattle.comtrade_analysis.specs.declared.factors.Factors.{Factors}
use Rattle.comtrade_analysis.specs.declared.mean_square.MeanFault.{MeanFault}
use Rattle.comtrade_analysis.specs.declared.mean_square.MeanSquare.{MeanSquare}
use Rattle.comtrade_c.specs.Writing.{reading_of}

-- so many rows are the whole rows of so many cycles of the line frequency at a rate
pub record AreCycles (h : HeadParts) (rate cycles rows : ℕ) : Type 0 where
  pub r : Rate
  pub at : slice_get h.rates rate ≡ Some r
  pub cycle : Cycle
  pub lasts : Lasts h.line_freq r.samp cycle.cycles cycle.rows
  pub some : 0 < cycle.cycles
  pub rows_are : rows ≡ rows_in cycle cycles

-- a row with one sample
abbrev pub one : ℤ → RowParts
one x = record { number = 1; stamp = None; values = reading_of x ∷ []; bits = [] }

-- samples as rows of one channel
abbrev pub column : List ℤ → List RowParts
column xs = map one xs

abbrev pub factors_of : AnalogParts → Factors
factors_of c = record { a = c.a; b = c.b }

-- the mean square of the values of samples, or why there is none
abbrev pub MeanIs : AnalogParts → List ℤ → Result MeanSquare MeanFault → Type 0
MeanIs c xs = MeanSquareIs (factors_of c) (present (column xs) 0 0 (length (column xs))) (length (column xs))

-- the rms value of the values, by their mean square, which is exact
pub record IsRmsOf (c : AnalogParts) (xs : List ℤ) (x : Float) : Type 0 where
  pub mean : MeanSquare
  pub of_values : MeanIs c xs (Ok mean)
  pub rms : IsRms mean x

-- a sample is missing or there is none, or the values have no exact mean square of 192 bits
abbrev pub HasNoRms : AnalogParts → List ℤ → Type 0
HasNoRms c xs = (why : MeanFault) × MeanIs c xs (Err why)

-- the channel of this index, of which this holds
abbrev pub OfChannel : HeadParts → ℕ → (AnalogParts → Type 0) → Type 0
OfChannel h k P = (c : AnalogParts) × (slice_get h.analog k ≡ Some c) × P c
