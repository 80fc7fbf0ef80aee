-- The data file in BINARY form (C37.111-1999, clause 6). Every number has its least significant byte first.
use Rattle.std.specs.Prelude.{ℕ, ◌+◌, ◌*◌, ◌/◌, Bool, true, false, Option, Some, None, List, [], ◌∷◌, ◌++◌, length, take, drop}
use Rattle.std.specs.List.{flat_map, range_with_len}
use Rattle.std.specs.Int.{w16, cast_unsigned}
use Rattle.byteorder.specs.Endian.{little_bytes}
use Rattle.dfr_channels.specs.declared.scan.Reading.{Reading}
use Rattle.dfr_channels.specs.declared.scan.Reading.TheVariants.{Value, Missing}
use Rattle.comtrade_format.specs.Parts.{RowParts}

-- a value in two's complement; a missing one is 8000
abbrev pub reading_number : Reading → ℕ
reading_number (Value x) = cast_unsigned w16 x
reading_number Missing = 0x8000

-- a time stamp; FFFFFFFF where there is none
abbrev pub stamp_number : Option ℕ → ℕ
stamp_number (Some t) = t
stamp_number None = 0xFFFF_FFFF

-- the first bit is the least significant one
unfoldable pub bits_number : List Bool → ℕ
bits_number [] = 0
bits_number (true ∷ bits) = 1 + 2 * bits_number bits
bits_number (false ∷ bits) = 2 * bits_number bits

-- the i-th sixteen bits, in two bytes; bits without a channel are 0
unfoldable pub group_bytes : List Bool → ℕ → List ℕ
group_bytes bits i = little_bytes 2 (bits_number (take 16 (drop (16 * i) bits)))

-- one group for each sixteen bits begun
unfoldable pub status_bytes : List Bool → List ℕ
status_bytes bits = flat_map (group_bytes bits) (range_with_len 0 ((length bits + 15) / 16))

-- number and stamp in four bytes each, the values in two bytes each, and the bits
unfoldable pub row_bytes : RowParts → List ℕ
row_bytes r =
    little_bytes 4 r.number ++ (little_bytes 4 (stamp_number r.stamp)
    ++ (flat_map (λ v. little_bytes 2 (reading_number v)) r.values ++ status_bytes r.bits))

unfoldable pub binary : List RowParts → List ℕ
binary rows = flat_map row_bytes rows
