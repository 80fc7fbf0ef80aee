-- What turns the values of a channel into volts or amperes of the primary side.
use Rattle.std.specs.Prelude.{ℕ, Bool, false, List, [], ◌∷◌, Option, Some, None, option_map, option_and_then, ◌||◌, ◌==◌, if◌then◌else◌}
use Rattle.std.specs.Float.{Float, binary64, float_zero, float_is_finite}
use lib.Ieee.{mul, div, lt, ne}
use Rattle.dfr_channels.specs.declared.channel.Side.{Side}
use Rattle.dfr_channels.specs.declared.channel.Side.TheVariants.{Primary, Secondary}
use Rattle.comtrade_distance.specs.declared.primary.TheConstants.{THOUSAND, THOUSANDTH, ONE}

-- by the first letter: k, m, or the unit itself; none of another prefix
abbrev pub size_by : ℕ → Option Float
size_by c =
    if c == 107 || c == 75 then Some THOUSAND else
    if c == 109 then Some THOUSANDTH else
    if c == 86 || c == 118 || c == 65 || c == 97 then Some ONE else None

abbrev pub unit_size : List ℕ → Option Float
unit_size [] = None
unit_size (c ∷ rest) = size_by c

-- a ratio of 1 is what files have that know none
abbrev pub is_told : Float → Bool
is_told ratio = if float_is_finite ratio then (if lt float_zero ratio then ne ratio ONE else false) else false

abbrev pub told : Float → Float → Option Float
told primary secondary = if is_told (div binary64 primary secondary) then Some (div binary64 primary secondary) else None

-- secondary values have the ratio that is given, else that of the channel
abbrev pub ratio : Side → Float → Float → Option Float → Option Float
ratio Primary primary secondary given = Some ONE
ratio Secondary primary secondary (Some given) = Some given
ratio Secondary primary secondary None = told primary secondary

abbrev pub factor : List ℕ → Side → Float → Float → Option Float → Option Float
factor unit side primary secondary given =
    option_and_then (λ size. option_map (λ r. mul binary64 size r) (ratio side primary secondary given)) (unit_size unit)
