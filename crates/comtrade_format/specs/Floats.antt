-- Decimals and samples as floats.
use Rattle.std.specs.Prelude.{◌≡◌, ℤ, List, ℕ, Some, ◌∷◌, ◌++◌}
use Rattle.std.specs.Fmt.{decimal, signed_decimal}
use Rattle.std.specs.Float.{Float, binary64}
use lib.Ieee.{add, mul, of_int}
use Rattle.fast_float.specs.Parse.{parse_float}
use Rattle.comtrade_values.specs.Spelling.{Number}
use Rattle.dfr_channels.specs.Parts.{AnalogParts}
use Rattle.comtrade_format.specs.declared.values.scale.Scale.{Scale}

-- the number units / 10^places, spelled with an exponent: the units, "e-", the places
abbrev pub spelled : Number → List ℕ
spelled n = signed_decimal n.units ++ 101 ∷ 45 ∷ decimal n.places

-- the float nearest to the number
abbrev pub IsNearest : Number → Float → Type 0
IsNearest n x = parse_float binary64 (spelled n) ≡ Some x

-- the floats nearest to a channel's a and b
pub record IsScale (c : AnalogParts) (s : Scale) : Type 0 where
  pub a : IsNearest c.a s.a
  pub b : IsNearest c.b s.b

-- a·x + b: one float product and one float sum, each rounded to the nearest float
abbrev pub scaled : Scale → ℤ → Float
scaled s x = add binary64 (mul binary64 s.a (of_int binary64 x)) s.b
