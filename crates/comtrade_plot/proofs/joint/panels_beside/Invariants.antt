use Rattle.std.proofs.Common.{◌≤◌}
use Rattle.comtrade_plot.proofs.joint.panels_beside.Given as goal

abbrev pub invariant-loop-partner : goal.invariant-loop-partner
invariant-loop-partner g l = l.next ≤ l.partner-index
