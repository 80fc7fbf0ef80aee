-- ASCII data (C37.111-1999, clause 6): a line for each row.
use Rattle.std.specs.Prelude.{ℕ, ◌+◌, Bool, ◌==◌, if◌then◌else◌, List, [], length, Option, Some, None, option_map, Result, Ok, ℤ, pos}
use Rattle.std.specs.List.{before_first}
use Rattle.std.specs.Ordering.{int_eq}
use Rattle.comtrade_values.specs.Lines.{lines, field}
use Rattle.comtrade_values.specs.Fields.{bit}
use Rattle.dfr_channels.specs.LineFields.{many, need}
use Rattle.dfr_channels.specs.declared.scan.Reading.{Reading}
use Rattle.dfr_channels.specs.declared.scan.Reading.TheVariants.{Value, Missing}
use Rattle.comtrade_format.specs.Parts.{RowParts}
use Rattle.comtrade_read.specs.declared.fault.ReadFault.{ReadFault}
use Rattle.comtrade_read.specs.declared.fault.ReadFault.TheVariants as faults
use Rattle.comtrade_read.specs.Line.{Fault, number, need_each, follow, from_first, each, end}
use Rattle.comtrade_read.specs.Fields.{natural, small, ten_digits}

abbrev pub is_end_mark : ℕ → Bool
is_end_mark b = b == 26

-- the lines that are read: those of the text before its first byte 1A, or of all of it
unfoldable pub data_lines : List ℕ → List (List ℕ)
data_lines dat = lines (before_first is_end_mark dat)

-- a stamp, or none where nothing stands
unfoldable pub stamp : List ℕ → Option (Option ℕ)
stamp f = if length f == 0 then Some None else option_map (λ n. Some n) (natural ten_digits f)

abbrev pub reading : ℤ → Reading
reading z = if int_eq z (pos 99999) then Missing else Value z

-- a value; 99,999 and nothing stand for a missing one
unfoldable pub value : List ℕ → Option Reading
value f = if length f == 0 then Some Missing else option_map reading (small f)

-- a row of k values and m bits
unfoldable pub row_line : ℕ → ℕ → List (List ℕ) → Result RowParts Fault
row_line k m fs = many (2 + k + m) faults.Fields fs (
    need (natural ten_digits (field fs 0)) (number 1) (λ n.
    need (stamp (field fs 1)) (number 2) (λ t.
    need_each value 2 k [] fs (λ values.
    need_each bit (2 + k) m [] fs (λ bits.
    Ok (record { number = n; stamp = t; values = values; bits = bits }))))))

-- what so many lines say, and no more, or their first fault
unfoldable pub rows : ℕ → ℕ → ℕ → List (List (List ℕ)) → Result (List RowParts) ReadFault
rows k m n ls =
    follow (each (λ before. row_line k m) n [] (from_first ls)) (λ rows. follow (end rows.1) (λ none. Ok rows.0))
