use Rattle.std.proofs.Common.{◌≡◌, ◌++◌, take, drop}
use Rattle.std.specs.Prelude.{map}
use Rattle.comtrade_c.specs.Values.{value_of}
use Rattle.comtrade_c.proofs.values.comtrade_core_values.Given as goal

abbrev pub invariant-loop-k : goal.invariant-loop-k
invariant-loop-k l = l.values ≡ map (value_of l.scale) (take l.k l.samples) ++ drop l.k l.initial.values
