-- CRC-32, as gzip and zip files have it (RFC 1952, 8).
use Rattle.std.specs.Prelude.{ℕ, ◌/◌, ◌%◌, ◌==◌, List, fold, bit_xor, if◌then◌else◌}

-- One bit of a division by the polynomial of CRC-32, which 3988292384 spells, its highest power lowest.
abbrev pub crc_bit : ℕ → ℕ
crc_bit c = if c % 2 == 1 then bit_xor (c / 2) 3988292384 else c / 2

-- a byte, divided bit by bit
unfoldable pub crc_entry : ℕ → ℕ
crc_entry n = crc_bit (crc_bit (crc_bit (crc_bit (crc_bit (crc_bit (crc_bit (crc_bit n)))))))

-- one byte more
abbrev pub crc_byte : ℕ → ℕ → ℕ
crc_byte crc byte = bit_xor (crc_entry (bit_xor crc byte % 256)) (crc / 256)

abbrev pub crc_32 : List ℕ → ℕ
crc_32 bytes = bit_xor (fold crc_byte 4294967295 bytes) 4294967295
