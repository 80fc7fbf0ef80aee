use Rattle.std.proofs.Common.{◌≤◌}
use Rattle.comtrade_plot.proofs.gaps.gaps_of.Given as goal

abbrev pub invariant-loop-time : goal.invariant-loop-time
invariant-loop-time g l = l.begun.rows ≤ l.time-index
