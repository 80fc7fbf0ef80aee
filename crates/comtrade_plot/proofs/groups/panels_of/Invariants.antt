use Rattle.std.proofs.Common.{◌≡◌, length}
use Rattle.comtrade_plot.proofs.groups.panels_of.Given as goal

abbrev pub invariant-loop-i : goal.invariant-loop-i
invariant-loop-i g l = length l.panels.items ≡ l.i
