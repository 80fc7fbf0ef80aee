use Rattle.std.proofs.Common.{◌≤◌}
use Rattle.comtrade_analysis.specs.Wide.{number}
use Rattle.comtrade_analysis.specs.Roots.{IsFloor}
use Rattle.comtrade_analysis.proofs.mean_square.MeanSquare.coarser.Given as goal

abbrev pub invariant-loop-shorter : goal.invariant-loop-shorter
invariant-loop-shorter l = record {
  floor : IsFloor l.fn.self l.square.1.0 (number l.square.0);
  enough : l.least ≤ number l.square.0;
  few : l.square.1.0 ≤ 80;
}

abbrev pub decreases-loop-shorter : goal.decreases-loop-shorter
decreases-loop-shorter l = l.square.1.0
