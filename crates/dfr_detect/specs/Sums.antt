-- What a window keeps of its samples.
use Rattle.std.specs.Prelude.{◌≡◌, ℕ, ℤ, ◌≤◌, ◌^◌, unsigned_abs, List, length}
use Rattle.std.specs.List.{All}
use Rattle.dfr_detect.specs.Windows.{sum_of_squares}
use Rattle.dfr_detect.specs.declared.sample.Sample.{Sample}

-- a sum of at most 256 samples
abbrev pub IsSmall : ℤ → Type 0
IsSmall x = unsigned_abs x ≤ 2 ^ 39

pub record AreSmall (x : Sample) : Type 0 where
  pub a : IsSmall x.a
  pub b : IsSmall x.b
  pub c : IsSmall x.c

pub record IsSummed (samples : List ℤ) (places : ℕ) (squares : ℕ) : Type 0 where
  pub summed : squares ≡ sum_of_squares samples
  pub small : All IsSmall samples
  pub few : length samples ≤ places
  pub bounded : places ≤ 2 ^ 18
