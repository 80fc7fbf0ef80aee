-- How a text is cut into lines, and a line into fields.
use Rattle.std.specs.Prelude.{ℕ, Bool, ◌==◌, if◌then◌else◌, List, [], ◌∷◌, Option, Some, None, length, map, reverse, slice_index_or}
use Rattle.std.specs.List.{slice_split}
use Rattle.std.specs.Str.Lines.{strip_carriage_return}
use Rattle.std.specs.Borrow.{Bor}
use Rattle.comtrade_values.specs.Spelling.{trimmed}

-- what the references point to
abbrev pub texts : List (Bor (List ℕ)) → List (List ℕ)
texts xs = map (λ x. x.now) xs

abbrev pub without_cr : List ℕ → List ℕ
without_cr line = strip_carriage_return line

-- nothing but blanks
abbrev pub is_blank_line : List ℕ → Bool
is_blank_line line = length (trimmed line) == 0

-- what is left after the first elements that pass
abbrev pub drop_front : {A : Type 0} → (A → Bool) → List A → List A
drop_front p [] = []
drop_front p (x ∷ xs) = if p x then drop_front p xs else (x ∷ xs)

abbrev pub drop_end : {A : Type 0} → (A → Bool) → List A → List A
drop_end p xs = reverse (drop_front p (reverse xs))

-- the text is cut at each line feed, and one carriage return at a line's end is dropped
abbrev pub cut_lines : List ℕ → List (List ℕ)
cut_lines text = map without_cr (slice_split (λ b. b == 10) text)

-- the lines of what is left of a text: none where it was cut to its end
abbrev pub lines_left : Option (List ℕ) → List (List ℕ)
lines_left None = []
lines_left (Some text) = cut_lines text

-- the lines that are read: blank lines at the end are dropped
abbrev pub lines : List ℕ → List (List ℕ)
lines text = drop_end is_blank_line (cut_lines text)

-- what stands between the commas, each without the blanks around it
abbrev pub fields : List ℕ → List (List ℕ)
fields line = map trimmed (slice_split (λ b. b == 44) line)

-- field i of a line, from 0
abbrev pub field : List (List ℕ) → ℕ → List ℕ
field fs i = slice_index_or fs i []

-- the fields of the line at place n, from 0
unfoldable pub line_fields : List (List ℕ) → ℕ → List (List ℕ)
line_fields ls n = fields (slice_index_or ls n [])
