use Rattle.std.proofs.Common.{◌≡◌, ◌≤◌, ◌+◌, [], length}
use Rattle.comtrade_values.specs.Lines.{cut_lines}
use Rattle.dfr_setup.specs.Plans.{with_lines}
use Rattle.dfr_setup.proofs.plans.plans_of.Given as goal

abbrev pub invariant-loop-line : goal.invariant-loop-line
invariant-loop-line g l = record {
  few : l.number + length l.lines ≤ length l.text + 1;
  same : with_lines l.setup (l.number + 1) l.plans.items l.lines ≡ with_lines l.setup 1 [] (cut_lines l.text);
}

abbrev pub decreases-loop-line : goal.decreases-loop-line
decreases-loop-line g l = length l.lines
