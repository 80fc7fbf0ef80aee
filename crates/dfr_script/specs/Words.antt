-- A line of a script: its word, and what stands after it.
use Rattle.std.specs.Prelude.{ℕ, ◌==◌, Bool, false, ◌||◌, List, [], ◌∷◌}
use Rattle.std.specs.List.{before_first, after_first}
use Rattle.comtrade_values.specs.Spelling as spelling
use Rattle.comtrade_values.specs.Lines.{is_blank_line}

-- a space or a tab
abbrev pub is_blank : ℕ → Bool
is_blank b = spelling.is_blank b

-- what stands before the first blank
unfoldable pub word : List ℕ → List ℕ
word line = before_first is_blank line

-- what stands after it, without the blanks around it
unfoldable pub rest : List ℕ → List ℕ
rest line = spelling.trimmed (after_first is_blank line)

abbrev pub is_comment : List ℕ → Bool
is_comment [] = false
is_comment (b ∷ bs) = b == 35

-- blank lines and comments are skipped
unfoldable pub is_silent : List ℕ → Bool
is_silent line = is_comment line || is_blank_line line
