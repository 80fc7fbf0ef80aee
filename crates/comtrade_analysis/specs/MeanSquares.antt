-- The mean square of the values a * x + b of samples.
use Rattle.std.specs.Prelude.{◌≡◌, ℕ, ◌+◌, ◌^◌, ◌<◌, ◌≤◌, ℤ, List, length, All, Option, Some, None, Result, Ok, Err}
use Rattle.std.specs.List.{sum_by}
use Rattle.comtrade_values.specs.Arithmetic.{value, places_of, IsShort}
use Rattle.comtrade_analysis.specs.Sums.{square}
use Rattle.comtrade_analysis.specs.Wide.{number}
use Rattle.comtrade_analysis.specs.declared.factors.Factors.{Factors}
use Rattle.comtrade_analysis.specs.declared.wide.Wide.{Wide}
use Rattle.comtrade_analysis.specs.declared.mean_square.MeanSquare.{MeanSquare}
use Rattle.comtrade_analysis.specs.declared.mean_square.MeanFault.{MeanFault}
use Rattle.comtrade_analysis.specs.declared.mean_square.MeanFault.TheVariants.{Missing, Digits}

-- the square of a sample's value, in units of the last place of a and b
abbrev pub square_in : Factors → ℤ → ℕ
square_in f x = square (value f.a f.b x).units

abbrev pub squares : Factors → List ℤ → ℕ
squares f xs = sum_by (square_in f) xs

-- each value can be computed, and the sum of their squares has 192 bits
pub record HasSquares (f : Factors) (xs : List ℤ) : Type 0 where
  pub short : All (λ x. IsShort f.a f.b x) xs
  pub small : squares f xs < 2 ^ 192

-- the sum of the squares, where there is one
abbrev pub AreSquares : Factors → List ℤ → Option Wide → Type 0
AreSquares f xs (Some w) = number w ≡ squares f xs
AreSquares f xs None = HasSquares f xs → ⊥

-- a sum with one more square
abbrev pub IsAdded : Factors → ℤ → Option Wide → Option Wide → Type 0
IsAdded f x (Some w) (Some sum) = number sum ≡ number w + square_in f x
IsAdded f x (Some w) None = IsShort f.a f.b x → 2 ^ 192 ≤ number w + square_in f x
IsAdded f x None (Some sum) = ⊥
IsAdded f x None None = Unit {0}

-- the sum of the squares of all values over their number
pub record IsMeanSquare (f : Factors) (xs : List ℤ) (m : MeanSquare) : Type 0 where
  pub sum : number m.sum ≡ squares f xs
  pub count : m.count ≡ length xs
  pub places : m.places ≡ places_of f.a f.b

-- each of so many rows has a sample, and there is a row
pub record IsWhole (xs : List ℤ) (rows : ℕ) : Type 0 where
  pub each : length xs ≡ rows
  pub some : 0 < rows

-- the mean square of the samples of so many rows, or why there is none
abbrev pub MeanSquareIs : Factors → List ℤ → ℕ → Result MeanSquare MeanFault → Type 0
MeanSquareIs f xs rows (Ok m) = IsWhole xs rows × IsMeanSquare f xs m
MeanSquareIs f xs rows (Err Missing) = IsWhole xs rows → ⊥
MeanSquareIs f xs rows (Err Digits) = IsWhole xs rows × (HasSquares f xs → ⊥)
