-- A set-up whose rules stand in a file of their own, by a line `rules @PATH`.
use Rattle.std.specs.Prelude.{ℕ, Bool, ◌==◌, if◌then◌else◌, List, [], ◌∷◌, ◌++◌, Option, Some, None, is_some, codes}
use Rattle.std.specs.List.{after_first, slice_split}
use Rattle.std.specs.Str.{bytes_eq}
use Rattle.comtrade_values.specs.Faults.{◌or◌}
use Rattle.comtrade_values.specs.Spelling.{is_blank, trimmed}
use Rattle.dfr_setup.specs.Wishes.{first_word, is_go}

-- what stands after the first word, without the blanks around it
abbrev pub rest : List ℕ → List ℕ
rest line = trimmed (after_first is_blank line)

-- the path behind an `@`
abbrev pub behind_at : List ℕ → Option (List ℕ)
behind_at [] = None
behind_at (b ∷ []) = None
behind_at (b ∷ c ∷ path) = if b == 64 then Some (c ∷ path) else None

-- the path in a line `rules @PATH`
abbrev pub path_in : List ℕ → Option (List ℕ)
path_in line = if bytes_eq (first_word line) (codes "rules") then behind_at (rest line) else None

-- the path in the first such line up to `go`
abbrev pub path_of : List (List ℕ) → Option (List ℕ)
path_of [] = None
path_of (line ∷ lines) = if is_go line then None else (path_in line or path_of lines)

-- a line with its end; one with a path has these rules instead
abbrev pub filled_line : List ℕ → List ℕ → List ℕ
filled_line rules line = (if is_some (path_in line) then codes "rules " ++ rules else line) ++ 10 ∷ []

abbrev pub filled_lines : List ℕ → List (List ℕ) → List ℕ
filled_lines rules [] = []
filled_lines rules (line ∷ lines) = filled_line rules line ++ filled_lines rules lines

-- a text with these rules in place of each path
abbrev pub filled : List ℕ → List ℕ → List ℕ
filled rules text = filled_lines rules (slice_split (λ b. b == 10) text)
