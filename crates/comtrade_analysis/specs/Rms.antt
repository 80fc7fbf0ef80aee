-- The rms value as a float: each step is rounded to the nearest float, and the sum of the squares in three.
use Rattle.std.specs.Prelude.{◌≡◌, ◌/◌, ◌%◌, ◌^◌, pos}
use Rattle.std.specs.Float.{Float, binary64, sqrt}
use lib.Ieee.{add, mul, div, of_int}
use Rattle.comtrade_format.specs.Floats.{IsNearest}
use Rattle.comtrade_analysis.specs.declared.rms.TheConstants.{FLOAT_LIMB}
use Rattle.comtrade_analysis.specs.declared.mean_square.MeanSquare.{MeanSquare}
use Rattle.comtrade_analysis.specs.declared.wide.Wide.{Wide}

-- (first · 2^64 + second) · 2^64 + third
abbrev pub float_of : Wide → Float
float_of w =
    let first = of_int binary64 (pos (w.high / 2 ^ 64)) in
    let second = of_int binary64 (pos (w.high % 2 ^ 64)) in
    add binary64 (mul binary64 (add binary64 (mul binary64 first FLOAT_LIMB) second) FLOAT_LIMB) (of_int binary64 (pos w.low))

-- the root of the mean square, times 10^-places
pub record IsRms (m : MeanSquare) (x : Float) : Type 0 where
  pub unit : Float
  pub is_unit : IsNearest (record { units = pos 1; places = m.places }) unit
  pub value : x ≡ mul binary64 (sqrt binary64 (div binary64 (float_of m.sum) (of_int binary64 (pos m.count)))) unit
