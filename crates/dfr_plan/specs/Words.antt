-- The words of a plan's lines.
use Rattle.std.specs.Prelude.{ℕ, ◌==◌, Bool, ◌||◌, List, length, slice_index, codes}
use Rattle.std.specs.List.{before_first, after_first}
use Rattle.std.specs.Str.{bytes_eq}
use Rattle.comtrade_values.specs.Spelling.{is_blank, trimmed}
use Rattle.comtrade_values.specs.Lines.{is_blank_line}

abbrev pub first_word : List ℕ → List ℕ
first_word line = before_first is_blank line

-- what stands after the first word, without the blanks around it
abbrev pub rest : List ℕ → List ℕ
rest line = trimmed (after_first is_blank line)

-- the line begins with this word
abbrev pub begins : List ℕ → List ℕ → Bool
begins word line = bytes_eq (first_word line) word

abbrev pub is_go : List ℕ → Bool
is_go line = begins (codes "go") line

-- blank, a comment, or a line that only the service reads
abbrev pub is_silent : List ℕ → Bool
is_silent line = is_blank_line line || (slice_index line 0 == 35) || begins (codes "input") line || begins (codes "options") line
