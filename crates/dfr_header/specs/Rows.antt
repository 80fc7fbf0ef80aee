-- Rows of a data file in which each sample is missing (C37.111-1999, clause 6).
use Rattle.std.specs.Prelude.{ℕ, zero, suc, ◌+◌, ◌*◌, ◌/◌, ◌==◌, nat_eq, Bool, if◌then◌else◌, List, [], ◌∷◌, length, take, drop, position, nat_lt, codes, Option, Some, None}
use Rattle.std.specs.List.{repeat, starts_with, count_by}
use Rattle.comtrade_format.specs.declared.file.Kind.{Kind}
use Rattle.comtrade_format.specs.declared.file.Kind.TheVariants.{Ascii, Binary}
use Rattle.comtrade_values.specs.Lines.{cut_lines}

abbrev pub from_place : List ℕ → Option ℕ → List ℕ
from_place text None = []
from_place text (Some at) = drop at text

-- from its first comma on
abbrev pub from_comma : List ℕ → List ℕ
from_comma text = from_place text (position (λ b. b == 44) text)

-- a line of ASCII data in which these fields follow the number and the stamp, each with the comma before it
abbrev pub is_empty_line : List ℕ → List ℕ → Bool
is_empty_line missing line = starts_with nat_eq (from_comma (drop 1 (from_comma line))) missing

-- a row of BINARY data in which these bytes follow the number and the stamp
abbrev pub is_empty_row : List ℕ → List ℕ → Bool
is_empty_row missing row = starts_with nat_eq (drop 8 row) missing

-- how many bytes a row of BINARY data has, of k samples and m bits
abbrev pub row_size : ℕ → ℕ → ℕ
row_size k m = 8 + 2 * k + 2 * ((m + 15) / 16)

-- of the whole rows of so many bytes, and of n rows at most
abbrev pub empty_rows : ℕ → List ℕ → List ℕ → ℕ → ℕ
empty_rows size missing bytes zero = 0
empty_rows size missing bytes (suc n) =
    if nat_lt (length bytes) size then 0
    else (if is_empty_row missing (take size bytes) then 1 else 0) + empty_rows size missing (drop size bytes) n

-- in how many rows of k samples and m bits each of the samples is missing
abbrev pub rows_in : Kind → ℕ → ℕ → List ℕ → ℕ
rows_in Ascii k m dat = count_by (is_empty_line (repeat k (codes ",99999"))) (cut_lines dat)
rows_in Binary k m dat = empty_rows (row_size k m) (repeat k (0 ∷ 128 ∷ [])) dat (length dat)

-- where a row has samples
abbrev pub rows_without_samples : Kind → ℕ → ℕ → List ℕ → Option ℕ
rows_without_samples kind zero m dat = None
rows_without_samples kind (suc k) m dat = Some (rows_in kind (suc k) m dat)
