-- The rms value of a channel.
use Rattle.std.specs.Prelude.{ℕ, ℤ, List, Option, Some, None}
use Rattle.std.specs.Float.{Float}
use Rattle.comtrade_analysis.specs.MeanSquares.{HasSquares, IsMeanSquare, IsWhole}
use Rattle.comtrade_analysis.specs.Rms.{IsRms}
use Rattle.comtrade_analysis.specs.declared.factors.Factors.{Factors}
use Rattle.comtrade_analysis.specs.declared.mean_square.MeanSquare.{MeanSquare}

-- the float of the root of the mean square
pub record IsRmsOf (f : Factors) (xs : List ℤ) (rms : Float) : Type 0 where
  pub mean : MeanSquare
  pub square : IsMeanSquare f xs mean
  pub root : IsRms mean rms

-- the rms value of the samples of so many rows; none exactly if a reading is missing, there is no row, or the squares have no sum
abbrev pub RmsIs : Factors → List ℤ → ℕ → Option Float → Type 0
RmsIs f xs rows (Some rms) = IsRmsOf f xs rms
RmsIs f xs rows None = IsWhole xs rows → HasSquares f xs → ⊥
