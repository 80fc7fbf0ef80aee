use Rattle.std.proofs.Common.{◌≡◌, ◌-◌, ◌*◌, ◌^◌, ◌<◌, ◌≤◌}
use Rattle.comtrade_analysis.specs.Wide.{number}
use Rattle.comtrade_analysis.proofs.mean_square.MeanSquare.finer.Given as goal

-- the sum in units of more places
abbrev pub invariant-loop-longer : goal.invariant-loop-longer
invariant-loop-longer l = record {
  same : l.sum.0 * 100 ^ l.self.places ≡ number l.self.sum * 100 ^ l.sum.1.0;
  small : l.sum.0 < 100 * l.least * l.self.count;
  few : l.sum.1.0 ≤ 80;
}

abbrev pub decreases-loop-longer : goal.decreases-loop-longer
decreases-loop-longer l = 80 - l.sum.1.0
