-- What is put where a line is.
use Rattle.std.specs.Prelude.{◌≡◌, ℕ, List, ◌++◌, codes}

-- the text grows by one line, with its end
pub record PutsLine (old new : List ℕ) : Type 0 where
  pub line : List ℕ
  pub puts : new ≡ old ++ line ++ codes "\n"
