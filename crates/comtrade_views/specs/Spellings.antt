-- How tables of values are written.
use Rattle.std.specs.Prelude.{ℕ, ◌==◌, ◌&&◌, ◌||◌, not, nat_le, Bool, if◌then◌else◌, List, [], ◌∷◌}
use Rattle.comtrade_values.specs.Spelling.{Number}
use Rattle.dfr_channels.specs.Parts.{AnalogParts}
use Rattle.dfr_channels.specs.declared.channel.Side.{Side}
use Rattle.dfr_channels.specs.declared.channel.Side.TheVariants.{Primary, Secondary}

abbrev pub is_digit : ℕ → Bool
is_digit b = nat_le 48 b && nat_le b 57

-- a letter or a digit of ASCII
abbrev pub is_alphanumeric : ℕ → Bool
is_alphanumeric b = is_digit b || (nat_le 65 b && nat_le b 90) || (nat_le 97 b && nat_le b 122)

-- printable, and neither part of a number nor a quotation mark
abbrev pub is_sign : ℕ → Bool
is_sign b = nat_le 33 b && nat_le b 126 && not (is_alphanumeric b) && not (b == 34) && not (b == 45)

abbrev pub of_side : Side → Number → Number → Number
of_side Primary primary secondary = primary
of_side Secondary primary secondary = secondary

-- the nominal value of a channel, on the side of its values
abbrev pub nominal : AnalogParts → Number
nominal c = of_side c.side c.primary c.secondary

-- without the sign of micro at its start, in UTF-8 or Latin-1
abbrev pub without_micro : List ℕ → List ℕ
without_micro [] = []
without_micro (b ∷ []) = if b == 181 then [] else b ∷ []
without_micro (b ∷ c ∷ rest) = if b == 194 && c == 181 then rest else (if b == 181 then c ∷ rest else b ∷ c ∷ rest)
