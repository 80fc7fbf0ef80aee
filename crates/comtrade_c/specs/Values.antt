-- Samples as values.
use Rattle.std.specs.Prelude.{ℤ, negsuc, if◌then◌else◌}
use Rattle.std.specs.Ordering.{int_eq}
use Rattle.std.specs.Float.{Float}
use Rattle.comtrade_format.specs.Floats.{scaled}
use Rattle.comtrade_format.specs.declared.values.scale.Scale.{Scale}
use Rattle.comtrade_c.specs.declared.values.TheConstants.{NO_VALUE}

-- a·x + b, and a NaN where -2^31 stands for a missing reading
abbrev pub value_of : Scale → ℤ → Float
value_of s x = if int_eq x (negsuc 2_147_483_647) then NO_VALUE else scaled s x
