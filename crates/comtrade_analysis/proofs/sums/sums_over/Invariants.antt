use Rattle.std.proofs.Common.{◌≤◌}
use Rattle.comtrade_analysis.specs.Sums.{present, AreSums, IsSmall}
use Rattle.comtrade_analysis.proofs.sums.sums_over.Given as goal

abbrev pub invariant-loop-i : goal.invariant-loop-i
invariant-loop-i g l = record {
  sums : AreSums (present l.rows l.channel l.window.first l.i) l.sums;
  small : IsSmall l.sums;
  few : l.sums.count ≤ l.i;
}
