-- The least and the greatest value a * x + b of a channel.
use Rattle.std.specs.Prelude.{◌≡◌, ℕ, ◌<◌, ℤ, ◌≤ℤ◌, ◌≢◌, List, Option, Some, None}
use Rattle.comtrade_format.specs.Parts.{RowParts}
use Rattle.comtrade_values.specs.Arithmetic.{value}
use Rattle.comtrade_analysis.specs.Readings.{sample_at}
use Rattle.comtrade_analysis.specs.Extremes.{EachSample}
use Rattle.comtrade_analysis.specs.declared.extremes.Extreme.{Extreme}
use Rattle.comtrade_analysis.specs.declared.extremes.Extremes.{Extremes}
use Rattle.comtrade_analysis.specs.declared.factors.Factors.{Factors}

-- the value of a sample, in units of the last place of a and b
abbrev pub units_of : Factors → ℤ → ℤ
units_of f x = (value f.a f.b x).units

-- the sample of its row, which no row before has
pub record IsFirstOf (rows : List RowParts) (channel n : ℕ) (e : Extreme) : Type 0 where
  pub within : e.row < n
  pub taken : sample_at rows channel e.row ≡ Some e.sample
  pub first : EachSample rows channel e.row (λ x. x ≢ e.sample)

-- no sample of the first n rows has a lesser value than the least, or a greater one than the greatest
pub record AreBounds (rows : List RowParts) (channel : ℕ) (f : Factors) (n : ℕ) (e : Extremes) : Type 0 where
  pub least : EachSample rows channel n (λ x. units_of f e.least.sample ≤ℤ units_of f x)
  pub greatest : EachSample rows channel n (λ x. units_of f x ≤ℤ units_of f e.greatest.sample)

-- the extremes of the first n rows by value; there are none exactly where none of these rows has a sample
abbrev pub AreValueExtremes : List RowParts → ℕ → Factors → ℕ → Option Extremes → Type 0
AreValueExtremes rows channel f n (Some e) = IsFirstOf rows channel n e.least × IsFirstOf rows channel n e.greatest × AreBounds rows channel f n e
AreValueExtremes rows channel f n None = EachSample rows channel n (λ x. ⊥)
