use Rattle.std.proofs.Common.{length}
use Rattle.std.specs.List.{All, AllAdjacentBelow}
use Rattle.comtrade_plot.specs.Beside.{IsEarlier, IsRow}
use Rattle.comtrade_plot.proofs.plan.course.course_of.Given as goal

abbrev pub invariant-loop-row : goal.invariant-loop-row
invariant-loop-row g l = All (IsRow l.times) l.moments.items × AllAdjacentBelow IsEarlier l.moments.items (length l.moments.items)
