use Rattle.std.proofs.Common.{◌≡◌, length}
use Rattle.comtrade_views.proofs.times.times_of.Given as goal

abbrev pub invariant-loop-i : goal.invariant-loop-i
invariant-loop-i g l = length l.times.items ≡ l.i
