-- The least and the greatest sample of a channel, and the first row of each.
use Rattle.std.specs.Prelude.{◌≡◌, ℕ, ◌<◌, ℤ, ◌≤ℤ◌, ◌<ℤ◌, List, Option, Some, None}
use Rattle.comtrade_format.specs.Parts.{RowParts}
use Rattle.comtrade_analysis.specs.Readings.{sample_at}
use Rattle.comtrade_analysis.specs.declared.extremes.Extreme.{Extreme}
use Rattle.comtrade_analysis.specs.declared.extremes.Extremes.{Extremes}

-- each sample of the first n rows is so
abbrev pub EachSample : List RowParts → ℕ → ℕ → (ℤ → Type 0) → Type 0
EachSample rows channel n P = (k : ℕ) → k < n → (x : ℤ) → sample_at rows channel k ≡ Some x → P x

-- the sample of its row: none of the first n rows has a lesser one, and each row before has a greater one
pub record IsLeast (rows : List RowParts) (channel n : ℕ) (e : Extreme) : Type 0 where
  pub within : e.row < n
  pub taken : sample_at rows channel e.row ≡ Some e.sample
  pub least : EachSample rows channel n (λ x. e.sample ≤ℤ x)
  pub first : EachSample rows channel e.row (λ x. e.sample <ℤ x)

-- the sample of its row: none of the first n rows has a greater one, and each row before has a lesser one
pub record IsGreatest (rows : List RowParts) (channel n : ℕ) (e : Extreme) : Type 0 where
  pub within : e.row < n
  pub taken : sample_at rows channel e.row ≡ Some e.sample
  pub greatest : EachSample rows channel n (λ x. x ≤ℤ e.sample)
  pub first : EachSample rows channel e.row (λ x. x <ℤ e.sample)

-- the extremes of the first n rows; there are none exactly where none of these rows has a sample
abbrev pub AreExtremes : List RowParts → ℕ → ℕ → Option Extremes → Type 0
AreExtremes rows channel n (Some e) = IsLeast rows channel n e.least × IsGreatest rows channel n e.greatest
AreExtremes rows channel n None = EachSample rows channel n (λ x. ⊥)
