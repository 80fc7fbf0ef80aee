use Rattle.std.proofs.Common.{◌≡◌, ◌≤◌, ◌+◌, length}
use Rattle.dfr_plan.specs.Plans.{from_line, said}
use Rattle.dfr_plan.proofs.plan.draft_of.Given as goal

abbrev pub invariant-loop-line : goal.invariant-loop-line
invariant-loop-line g l = record {
  few : l.number + length l.lines ≤ length l.text + 1;
  same : from_line l.layout l.is_below (l.number + 1) l.draft l.lines ≡ said l.layout l.text;
}

abbrev pub decreases-loop-line : goal.decreases-loop-line
decreases-loop-line g l = length l.lines
