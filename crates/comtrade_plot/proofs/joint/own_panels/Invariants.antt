use Rattle.std.proofs.Common.{◌≤◌}
use Rattle.comtrade_plot.proofs.joint.own_panels.Given as goal

abbrev pub invariant-loop-partner : goal.invariant-loop-partner
invariant-loop-partner g l = l.next ≤ l.partner-index
