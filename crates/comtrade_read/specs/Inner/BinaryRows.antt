-- What the reader's functions answer of binary data, in words that no public contract needs.
use Rattle.std.specs.Prelude.{ℕ, ◌+◌, ◌*◌, ◌==◌, if◌then◌else◌, List, map, drop, Option, Some, None}
use Rattle.std.specs.List.{range_with_len}
use Rattle.byteorder.specs.Endian.{little_number}
use Rattle.comtrade_format.specs.Parts.{RowParts}
use Rattle.comtrade_format.specs.Packed.{values_at, bits_at}
use Rattle.comtrade_read.specs.Reads.{row_size}

-- a stamp; the highest stands for none
abbrev pub stamp_at : List ℕ → Option ℕ
stamp_at bytes = if little_number 4 bytes == 4294967295 then None else Some (little_number 4 bytes)

-- the row that begins these bytes
unfoldable pub row_at : ℕ → ℕ → List ℕ → RowParts
row_at k m bytes = record {
  number = little_number 4 bytes;
  stamp = stamp_at (drop 4 bytes);
  values = values_at k (drop 8 bytes);
  bits = bits_at m (drop (8 + 2 * k) bytes);
}

-- row i begins after i rows
abbrev pub rows_at : ℕ → ℕ → List ℕ → ℕ → List RowParts
rows_at k m dat count = map (λ i. row_at k m (drop (i * row_size k m) dat)) (range_with_len 0 count)
