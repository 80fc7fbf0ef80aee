-- What the file of a line tells.
use Rattle.std.specs.Prelude.{◌≡◌, ℕ, List, codes, Option, Some, None, option_map, option_and_then, Result, Ok, Err, is_nan, if◌then◌else◌}
use Rattle.std.specs.Option.{option_or}
use Rattle.std.specs.Borrow.{Bor}
use Rattle.std.specs.Float.{Float, binary64, float_zero}
use lib.Ieee.{of_int, lt}
use Rattle.toml.specs.Data.{Data, table, Members, get, as_integer, as_float}
use Rattle.toml.specs.Parse.{parse_document}
use Rattle.comtrade_distance.specs.declared.line_file.LineData.{LineData}
use Rattle.comtrade_distance.specs.declared.line_file.LineFault.{LineFault}
use Rattle.comtrade_distance.specs.declared.line_file.LineFault.TheVariants.{Missing, NotNumber, Negative, Zero, Great}
use Rattle.comtrade_distance.specs.declared.line_file.TheConstants.{MOST}

-- the number of a value: 5 is 5.0
abbrev pub number : Data → Option Float
number d = option_or (option_map (of_int binary64) (as_integer d)) (as_float d)

-- a number of a line is 0 or more, and at most the greatest one
abbrev pub checked : Bor (List ℕ) → Float → Result Float LineFault
checked key x =
    if is_nan x then Err (NotNumber key) else
    if lt x float_zero then Err (Negative key) else
    if lt MOST x then Err (Great key) else Ok x

abbrev pub number_of : Bor (List ℕ) → Option Float → Result Float LineFault
number_of key None = Err (NotNumber key)
number_of key (Some x) = checked key x

abbrev pub value_of : Bor (List ℕ) → Option Data → Result Float LineFault
value_of key None = Err (Missing key)
value_of key (Some d) = number_of key (number d)

-- the number at a key
abbrev pub number_at : Bor (List ℕ) → Data → Result Float LineFault
number_at key d = value_of key (get key.now d)

-- a length, a reactance or a ratio is over 0
abbrev pub sized : Bor (List ℕ) → Float → Result Float LineFault
sized key x = if lt float_zero x then Ok x else Err (Zero key)

-- the number at a key of a table
abbrev pub number_in : List ℕ → Data → Option Float
number_in key d = option_and_then number (get key d)

-- the ratio at a key, if it is there
abbrev pub IsRatioAt : List ℕ → Data → Option Float → Type 0
IsRatioAt key d None = get key d ≡ None
IsRatioAt key d (Some x) = number_in key d ≡ Some x

-- a line has the numbers of a table
pub record Tells (d : Data) (l : LineData) : Type 0 where
  pub r1 : number_in (codes "r1") d ≡ Some l.line.positive.re
  pub x1 : number_in (codes "x1") d ≡ Some l.line.positive.im
  pub r0 : number_in (codes "r0") d ≡ Some l.line.zero.re
  pub x0 : number_in (codes "x0") d ≡ Some l.line.zero.im
  pub length : number_in (codes "length") d ≡ Some l.length
  pub voltage : IsRatioAt (codes "voltage_ratio") d l.voltage_ratio
  pub current : IsRatioAt (codes "current_ratio") d l.current_ratio

-- a line has the numbers of a text
pub record IsTold (text : List ℕ) (l : LineData) : Type 0 where
  pub members : Members
  pub parses : parse_document text ≡ Some members
  pub tells : Tells (table members) l
