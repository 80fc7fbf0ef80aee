-- How a field spells a text, a whole number and a decimal.
use Rattle.std.specs.Prelude.{ℕ, ◌+◌, ◌-◌, ◌*◌, ◌^◌, Bool, true, false, ◌||◌, ◌&&◌, ◌==◌, nat_lt, nat_le, if◌then◌else◌, List, [], ◌∷◌, ◌++◌, length, reverse, position, Option, Some, None, is_some, ℤ, pos, negsuc, neg_ℤ, ◌<ℤ◌, ◌≤◌, min}
use Rattle.std.specs.List.{before_first, after_first}
use Rattle.std.specs.Ordering.{eq_of_both, int_eq, on}
use Rattle.std.specs.Str.{all_ascii_digits}
use Rattle.std.specs.Str.Parse.{digits_value, starts_with_minus, without_leading_sign, signed_digits_value}

-- a space or a tab
abbrev pub is_blank : ℕ → Bool
is_blank b = (b == 32) || (b == 9)

abbrev pub trim_start : List ℕ → List ℕ
trim_start [] = []
trim_start (b ∷ bs) = if is_blank b then trim_start bs else (b ∷ bs)

-- without the blanks at both ends
abbrev pub trimmed : List ℕ → List ℕ
trimmed bs = reverse (trim_start (reverse (trim_start bs)))

-- one or more digits
abbrev pub is_numeral : List ℕ → Bool
is_numeral ds = nat_lt 0 (length ds) && all_ascii_digits ds

-- a whole number: an optional sign and one or more digits, of a value strictly between -10^36 and 10^36
abbrev pub whole_number : List ℕ → Option ℤ
whole_number bs =
    let digits = without_leading_sign bs in
    if is_numeral digits && nat_lt (digits_value 10 digits) (10 ^ 36) then Some (signed_digits_value 10 bs) else None

-- the number units / 10^places
pub record Number : Type 0 where
  pub units : ℤ
  pub places : ℕ

-- the same units and the same places
abbrev pub is_same : Number → Number → Bool
is_same = eq_of_both (on (λ n. n.units) int_eq) (on (λ n. n.places) ◌==◌)

abbrev pub is_point : ℕ → Bool
is_point b = b == 46

abbrev pub is_exponent_mark : ℕ → Bool
is_exponent_mark b = (b == 101) || (b == 69)

-- what stands after the exponent mark, if there is one
abbrev pub exponent_text : List ℕ → Option (List ℕ)
exponent_text bs = if is_some (position is_exponent_mark bs) then Some (after_first is_exponent_mark bs) else None

-- an exponent: whether it is below zero, and its size; 0 where there is none
abbrev pub exponent : Option (List ℕ) → Option (Bool × ℕ)
exponent None = Some (false, 0)
exponent (Some bs) = if is_numeral (without_leading_sign bs) then Some (starts_with_minus bs, digits_value 10 (without_leading_sign bs)) else None

-- the number d / 10^p * 10^(-e) where the exponent is negative (true), else * 10^e; by units
-- and places
abbrev pub shifted : ℕ → ℕ → Bool × ℕ → ℕ × ℕ
shifted d p (true, e) = (d, p + e)
shifted d p (false, e) = (d * 10 ^ (e - p), p - e)

-- the number of this size and sign, where it is small enough to be held
abbrev pub number : Bool → ℕ × ℕ → Option Number
number minus (units, places) =
    if nat_lt units (10 ^ 36) && nat_le places 80 then Some (record { units = if minus then neg_ℤ (pos units) else pos units; places = places }) else None

-- a decimal by its parts: the digits before and after the point
abbrev pub decimal_of : Bool → List ℕ → List ℕ → Option (Bool × ℕ) → Option Number
decimal_of minus whole fraction None = None
decimal_of minus whole fraction (Some e) =
    if is_numeral (whole ++ fraction) then number minus (shifted (digits_value 10 (whole ++ fraction)) (length fraction) e) else None

-- a decimal: an optional sign, digits with at most one point, at least one digit, and an optional exponent
abbrev pub decimal_number : List ℕ → Option Number
decimal_number bs =
    let front = before_first is_exponent_mark bs in
    let digits = without_leading_sign front in
    decimal_of (starts_with_minus front) (before_first is_point digits) (after_first is_point digits) (exponent (exponent_text bs))

-- what a decimal may hold
pub record IsNumber (n : Number) : Type 0 where
  pub above : negsuc (10 ^ 36 - 1) <ℤ n.units
  pub below : n.units <ℤ pos (10 ^ 36)
  pub places : n.places ≤ 80

-- the same exponent, but at most 10^36
abbrev pub capped : Bool × ℕ → Bool × ℕ
capped (negative, e) = (negative, min e (10 ^ 36))

-- the number that digits spell, but at most 10^36
abbrev pub capped_size : List ℕ → Option ℕ
capped_size ds = if is_numeral ds then Some (min (digits_value 10 ds) (10 ^ 36)) else None
