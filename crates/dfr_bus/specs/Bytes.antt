-- Numbers as bytes, by the place of their first byte.
use Rattle.std.specs.Prelude.{ℕ, zero, suc, ◌+◌, ◌*◌, List, slice_index}

abbrev pub byte : List ℕ → ℕ → ℕ
byte bytes at = slice_index bytes at

-- two and four bytes, the most significant first
abbrev pub big_2 : List ℕ → ℕ → ℕ
big_2 bytes at = byte bytes at * 256 + byte bytes (at + 1)

abbrev pub big_4 : List ℕ → ℕ → ℕ
big_4 bytes at = big_2 bytes at * 65536 + big_2 bytes (at + 2)

-- so many bytes from a place on, the most significant first, below digits that were read before
unfoldable pub number_from : ℕ → List ℕ → ℕ → ℕ → ℕ
number_from high bytes at zero = high
number_from high bytes at (suc n) = number_from (high * 256 + byte bytes at) bytes (at + 1) n

-- two and four bytes, the least significant first
abbrev pub little_2 : List ℕ → ℕ → ℕ
little_2 bytes at = byte bytes at + byte bytes (at + 1) * 256

abbrev pub little_4 : List ℕ → ℕ → ℕ
little_4 bytes at = little_2 bytes at + little_2 bytes (at + 2) * 65536
