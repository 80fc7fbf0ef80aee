-- The values and the bits of a row of BINARY data (C37.111-1999, clause 6), read back. Every number has its least significant byte first.
use Rattle.std.specs.Prelude.{ℕ, ◌*◌, ◌/◌, ◌%◌, ◌==◌, ℤ, negsuc, if◌then◌else◌, List, map, drop, Bool}
use Rattle.std.specs.Int.{cast_signed, w16, bit_at}
use Rattle.std.specs.Ordering.{int_eq}
use Rattle.std.specs.List.{range_with_len}
use Rattle.byteorder.specs.Endian.{little_number}
use Rattle.dfr_channels.specs.declared.scan.Reading.{Reading}
use Rattle.dfr_channels.specs.declared.scan.Reading.TheVariants.{Value, Missing}

abbrev pub reading : ℤ → Reading
reading z = if int_eq z (negsuc 32767) then Missing else Value z

-- the value in the first two bytes, in two's complement; 8000 is a missing one
abbrev pub value_at : List ℕ → Reading
value_at bytes = reading (cast_signed w16 (little_number 2 bytes))

-- value i stands in the two bytes after i values
abbrev pub values_at : ℕ → List ℕ → List Reading
values_at count bytes = map (λ i. value_at (drop (2 * i) bytes)) (range_with_len 0 count)

-- bit j is bit j % 16 of the group j / 16
abbrev pub bit_of : List ℕ → ℕ → Bool
bit_of bytes j = bit_at (little_number 2 (drop (2 * (j / 16)) bytes)) (j % 16) == 1

abbrev pub bits_at : ℕ → List ℕ → List Bool
bits_at count bytes = map (bit_of bytes) (range_with_len 0 count)

-- the lowest bits of a group
abbrev pub group_bits : ℕ → ℕ → List Bool
group_bits count group = map (λ i. bit_at group i == 1) (range_with_len 0 count)
