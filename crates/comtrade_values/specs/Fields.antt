-- What a field says, where it can be read.
use Rattle.std.specs.Prelude.{ℕ, Bool, true, false, ◌&&◌, ◌==◌, nat_le, if◌then◌else◌, List, length, Option, Some, None, ℤ, pos, negsuc, int_le}
use Rattle.comtrade_values.specs.Spelling.{whole_number, decimal_number, Number}

abbrev pub zero_number : Number
zero_number = record { units = pos 0; places = 0 }

-- the number, where it lies from 0 to high
abbrev pub up_to : ℕ → Option ℤ → Option ℕ
up_to high None = None
up_to high (Some (pos n)) = if nat_le n high then Some n else None
up_to high (Some (negsuc n)) = None

-- the number, where it lies from low to high
abbrev pub within : ℤ → ℤ → Option ℤ → Option ℤ
within low high None = None
within low high (Some z) = if int_le low z && int_le z high then Some z else None

-- a decimal, or nothing, which is 0
unfoldable pub free_scale : List ℕ → Option Number
free_scale f = if length f == 0 then Some zero_number else decimal_number f

abbrev pub as_bit : Option ℤ → Option Bool
as_bit None = None
as_bit (Some (pos n)) = if n == 0 then Some false else if n == 1 then Some true else None
as_bit (Some (negsuc n)) = None

-- 0 or 1
unfoldable pub bit : List ℕ → Option Bool
bit f = as_bit (whole_number f)

-- 0 or 1, or nothing, which is 0
unfoldable pub free_bit : List ℕ → Option Bool
free_bit f = if length f == 0 then Some false else bit f
