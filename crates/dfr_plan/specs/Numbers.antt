-- How a plan spells numbers: in decimal digits, or in hexadecimal ones after 0x. All are of 32 bits.
use Rattle.std.specs.Prelude.{ℕ, ◌+◌, ◌-◌, ◌*◌, ◌==◌, ◌&&◌, nat_le, nat_lt, if◌then◌else◌, List, [], ◌∷◌, length, Option, Some, None, option_and_then}
use Rattle.comtrade_values.specs.Fields.{up_to}
use Rattle.comtrade_values.specs.Spelling.{whole_number}

abbrev pub hex_digit : ℕ → Option ℕ
hex_digit b =
    if nat_le 48 b && nat_le b 57 then Some (b - 48)
    else if nat_le 97 b && nat_le b 102 then Some (b - 87)
    else if nat_le 65 b && nat_le b 70 then Some (b - 55)
    else None

-- a number with one digit more, if it stays within 32 bits
abbrev pub with_value : ℕ → ℕ → Option ℕ
with_value n d = if nat_lt 268435455 n then None else Some (n * 16 + d)

abbrev pub with_digit : ℕ → ℕ → Option ℕ
with_digit n b = option_and_then (λ d. with_value n d) (hex_digit b)

-- the number that digits spell after those of n
abbrev pub hex_after : ℕ → List ℕ → Option ℕ
hex_after n [] = Some n
hex_after n (b ∷ bs) = option_and_then (λ m. hex_after m bs) (with_digit n b)

abbrev pub hex_number : List ℕ → Option ℕ
hex_number ds = if length ds == 0 then None else hex_after 0 ds

abbrev pub decimal_number : List ℕ → Option ℕ
decimal_number text = up_to 4294967295 (whole_number text)

abbrev pub number : List ℕ → Option ℕ
number [] = decimal_number []
number (a ∷ []) = decimal_number (a ∷ [])
number (a ∷ b ∷ bs) = if (a == 48) && (b == 120) then hex_number bs else decimal_number (a ∷ b ∷ bs)

-- a byte of two digits
abbrev pub hex_pair : ℕ → ℕ → Option ℕ
hex_pair a b = option_and_then (λ high. option_and_then (λ low. Some (high * 16 + low)) (hex_digit b)) (hex_digit a)
