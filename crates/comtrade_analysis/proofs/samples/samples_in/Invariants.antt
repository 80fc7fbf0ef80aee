use Rattle.std.proofs.Common.{◌≡◌}
use Rattle.comtrade_analysis.specs.Sums.{present}
use Rattle.comtrade_analysis.proofs.samples.samples_in.Given as goal

abbrev pub invariant-loop-i : goal.invariant-loop-i
invariant-loop-i g l = l.samples.items ≡ present l.rows l.channel l.window.first l.i
