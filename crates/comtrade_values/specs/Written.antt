-- How numbers are written.
use Rattle.std.specs.Prelude.{ℕ, zero, suc, ◌+◌, ◌-◌, ℤ, pos, negsuc, unsigned_abs, List, [], ◌∷◌, ◌++◌, length, take, drop}
use Rattle.std.specs.List.{repeat}
use Rattle.std.specs.Fmt.{decimal}
use Rattle.comtrade_values.specs.Spelling.{Number}

-- zeros in front, so that at least n digits stand there
unfoldable pub filled : ℕ → List ℕ → List ℕ
filled n digits = repeat (n - length digits) (48 ∷ []) ++ digits

-- the number in at least n digits
unfoldable pub padded : ℕ → ℕ → List ℕ
padded n x = filled n (decimal x)

-- a point before the last `places` of the digits
unfoldable pub with_point : ℕ → List ℕ → List ℕ
with_point places digits = take (length digits - places) digits ++ 46 ∷ drop (length digits - places) digits

-- the same with zeros in front, so that a digit stands before the point; no point where `places` is 0
unfoldable pub pointed : ℕ → List ℕ → List ℕ
pointed zero digits = digits
pointed (suc p) digits = with_point (suc p) (filled (suc p + 1) digits)

-- a minus where the number is below 0
abbrev pub minus : ℤ → List ℕ
minus (pos n) = []
minus (negsuc n) = 45 ∷ []

-- a decimal: the sign, and the digits of the units with the point before the last `places`
unfoldable pub decimal_text : Number → List ℕ
decimal_text n = minus n.units ++ pointed n.places (decimal (unsigned_abs n.units))
