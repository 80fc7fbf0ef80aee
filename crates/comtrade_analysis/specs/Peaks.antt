-- The samples of a window, and the value farthest from 0.
use Rattle.std.specs.Prelude.{◌≡◌, ◌≢◌, ℕ, ◌<◌, ℤ, List, length, slice_get, Some, false}
use Rattle.std.specs.Float.{Float, float_with_sign, ◌<ᶠ◌, ◌≤ᶠ◌}
use Rattle.comtrade_format.specs.Floats.{scaled}
use Rattle.comtrade_format.specs.Parts.{RowParts}
use Rattle.comtrade_format.specs.declared.values.scale.Scale.{Scale}
use Rattle.comtrade_analysis.specs.Sums.{present}
use Rattle.comtrade_analysis.specs.declared.samples.Peak.{Peak}
use Rattle.comtrade_analysis.specs.declared.window.Window.{Window}

-- a sample of the channel in each row of the window, in order
pub record AreSamples (rows : List RowParts) (channel : ℕ) (w : Window) (xs : List ℤ) : Type 0 where
  pub are : xs ≡ present rows channel w.first w.rows
  pub each : length xs ≡ w.rows

-- a reading is missing in the window, or a row is not there
abbrev pub LacksSamples : List RowParts → ℕ → Window → Type 0
LacksSamples rows channel w = length (present rows channel w.first w.rows) ≢ w.rows

-- how far the value of a sample is from 0
abbrev pub size_of : Scale → ℤ → Float
size_of s x = float_with_sign false (scaled s x)

-- the value of one of the samples: of the first n none is farther from 0, and none before it is as far
pub record IsPeakWithin (s : Scale) (xs : List ℤ) (n : ℕ) (p : Peak) : Type 0 where
  pub x : ℤ
  pub at : slice_get xs p.index ≡ Some x
  pub value : p.value ≡ scaled s x
  pub farthest : (k : ℕ) (y : ℤ) → k < n → slice_get xs k ≡ Some y → ¬ (size_of s x <ᶠ size_of s y)
  pub first : (k : ℕ) (y : ℤ) → k < p.index → slice_get xs k ≡ Some y → ¬ (size_of s x ≤ᶠ size_of s y)

abbrev pub IsPeak : Scale → List ℤ → Peak → Type 0
IsPeak s xs p = IsPeakWithin s xs (length xs) p
