-- Sums of a channel's samples over a window.
use Rattle.std.specs.Prelude.{◌≡◌, ℕ, ◌*◌, ◌^◌, ◌≤◌, ℤ, pos, ◌+ℤ◌, unsigned_abs, List, length}
use Rattle.std.specs.List.{filter_map, fold, sum_by, range_with_len}
use Rattle.comtrade_format.specs.Parts.{RowParts}
use Rattle.comtrade_analysis.specs.Readings.{sample_at}
use Rattle.comtrade_analysis.specs.declared.sums.Sums.{Sums}

-- the samples that a channel has in so many rows, in order
abbrev pub present : List RowParts → ℕ → ℕ → ℕ → List ℤ
present rows channel first n = filter_map (sample_at rows channel) (range_with_len first n)

abbrev pub square : ℤ → ℕ
square x = unsigned_abs x * unsigned_abs x

-- the number of some samples, their sum, and the sum of their squares
pub record AreSums (xs : List ℤ) (s : Sums) : Type 0 where
  pub count : s.count ≡ length xs
  pub sum : s.sum ≡ fold ◌+ℤ◌ (pos 0) xs
  pub squares : s.squares ≡ sum_by square xs

-- a sample has 32 bits
pub record IsSmall (s : Sums) : Type 0 where
  pub sum : unsigned_abs s.sum ≤ 2 ^ 31 * s.count
  pub squares : s.squares ≤ 2 ^ 62 * s.count
