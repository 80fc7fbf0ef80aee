use Rattle.std.proofs.Common.{◌<◌}
use Rattle.comtrade_dialects.proofs.numeral.spelled_of.Given as goal

abbrev pub invariant-loop-i : goal.invariant-loop-i
invariant-loop-i l = l.digits.0 < 1000000000000000000
