-- What the reader's functions answer of data, in words that no public contract needs.
use Rattle.std.specs.Prelude.{ℕ, ◌*◌, ◌==◌, if◌then◌else◌, List, length, map, Result, Ok, Err}
use Rattle.comtrade_values.specs.Lines.{fields}
use Rattle.comtrade_format.specs.declared.file.Kind.{Kind}
use Rattle.comtrade_format.specs.declared.file.Kind.TheVariants.{Ascii, Binary}
use Rattle.comtrade_format.specs.Parts.{HeadParts, RowParts}
use Rattle.comtrade_read.specs.declared.fault.ReadFault.{ReadFault}
use Rattle.comtrade_read.specs.declared.fault.ReadFault.TheVariants as faults
use Rattle.comtrade_read.specs.Ascii.{data_lines, rows}
use Rattle.comtrade_read.specs.Head.{last_sample}
use Rattle.comtrade_read.specs.Reads.{row_size}
use Rattle.comtrade_read.specs.Inner.BinaryRows.{rows_at}

-- what data of this kind say, so many rows of k values and m bits
abbrev pub rows_as : Kind → ℕ → ℕ → ℕ → List ℕ → Result (List RowParts) ReadFault
rows_as Ascii k m count dat = rows k m count (map fields (data_lines dat))
rows_as Binary k m count dat = if length dat == count * row_size k m then Ok (rows_at k m dat count) else Err faults.Length

-- what the data say under the head
abbrev pub rows_under : HeadParts → List ℕ → Result (List RowParts) ReadFault
rows_under h dat = rows_as h.kind (length h.analog) (length h.status) (last_sample h.rates) dat
