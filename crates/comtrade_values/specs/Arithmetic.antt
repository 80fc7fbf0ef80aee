-- Exact arithmetic of decimals, and the value a * x + b of a sample.
use Rattle.std.specs.Prelude.{◌≡◌, ◌≢◌, List, ◌++◌, ℕ, ◌-◌, ◌^◌, ◌≤◌, max, ℤ, pos, ◌+ℤ◌, ◌*ℤ◌}
use Rattle.std.specs.Int.RustNames.{int_rem}
use Rattle.comtrade_values.specs.Spelling.{Number, IsNumber}
use Rattle.comtrade_values.specs.Written.{decimal_text}

-- the same number with so many places, no fewer than its own
abbrev pub with_places : ℕ → Number → Number
with_places places n = record { units = n.units *ℤ pos (10 ^ (places - n.places)); places = places }

-- a number times a whole number
abbrev pub times : Number → ℤ → Number
times n x = record { units = n.units *ℤ x; places = n.places }

-- the sum of two numbers of equal places
abbrev pub sum : Number → Number → Number
sum n m = record { units = n.units +ℤ m.units; places = n.places }

-- the places of the finer number
abbrev pub places_of : Number → Number → ℕ
places_of n m = max n.places m.places

-- a * x + b
abbrev pub value : Number → Number → ℤ → Number
value a b x = sum (with_places (places_of a b) (times a x)) (with_places (places_of a b) b)

-- with the places of the finer of a and b, each of a * x, b and their sum has at most 36 digits
pub record IsShort (a b : Number) (x : ℤ) : Type 0 where
  pub product : IsNumber (with_places (places_of a b) (times a x))
  pub offset : IsNumber (with_places (places_of a b) b)
  pub sum : IsNumber (value a b x)

-- no zero stands at the end of the places
abbrev pub HasNoZero : Number → Type 0
HasNoZero n = n.places ≢ 0 → int_rem n.units (pos 10) ≢ pos 0

-- the same number without zeros at the end of its places
pub record IsTrimmed (n trimmed : Number) : Type 0 where
  pub fewer : trimmed.places ≤ n.places
  pub same : with_places n.places trimmed ≡ n
  pub short : HasNoZero trimmed

-- the text of the number without zeros at its end is put after what was there
pub record AppendsValue (old new : List ℕ) (n : Number) : Type 0 where
  pub shown : Number
  pub trimmed : IsTrimmed n shown
  pub text : new ≡ old ++ decimal_text shown

-- the number units / 10^places
abbrev pub number_of : ℤ → ℕ → Number
number_of units places = record { units = units; places = places }
