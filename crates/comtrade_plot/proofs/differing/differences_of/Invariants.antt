use Rattle.std.proofs.Common.{◌≤◌}
use Rattle.comtrade_plot.proofs.differing.differences_of.Given as goal

abbrev pub invariant-loop-row : goal.invariant-loop-row
invariant-loop-row g l = l.differences.count ≤ l.row
