-- What the numbers of a configuration file and of rows say, where they can be read.
use Rattle.std.specs.Prelude.{ℕ, ◌+◌, ◌-◌, ◌||◌, ◌&&◌, ◌==◌, nat_lt, if◌then◌else◌, List, length, take, Option, Some, None, ℤ, pos, negsuc, slice_index_or, option_and_then}
use Rattle.comtrade_values.specs.Spelling.{whole_number, decimal_number, Number}
use Rattle.comtrade_values.specs.Fields.{up_to, within}

-- a whole number
unfoldable pub whole : List ℕ → Option ℤ
whole f = whole_number f

-- a whole number from 0 to high
unfoldable pub natural : ℕ → List ℕ → Option ℕ
natural high f = up_to high (whole_number f)

-- the greatest number of a row, and the greatest stamp
abbrev pub ten_digits : ℕ
ten_digits = 9999999999

-- a whole number from -99,999 to 99,999
unfoldable pub small : List ℕ → Option ℤ
small f = within (negsuc 99998) (pos 99999) (whole_number f)

-- a decimal
unfoldable pub scale : List ℕ → Option Number
scale f = decimal_number f

-- what stands before this letter, in upper or lower case, at the end
abbrev pub before_letter : ℕ → List ℕ → Option (List ℕ)
before_letter letter f =
    if nat_lt 0 (length f) && ((slice_index_or f (length f - 1) 0 == letter) || (slice_index_or f (length f - 1) 0 == letter + 32)) then Some (take (length f - 1) f) else None

-- a number of channels directly followed by its letter
unfoldable pub count : ℕ → List ℕ → Option ℕ
count letter f = up_to 999999 (option_and_then whole_number (before_letter letter f))
