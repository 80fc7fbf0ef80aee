use Rattle.std.proofs.Common.{◌≡◌, ◌+◌, ◌≤◌, drop, length}
use Rattle.std.specs.Prelude.{Ok}
use Rattle.std.specs.List.{position_or_len}
use Rattle.dfr_script.specs.Scripts.{draft, is_go}
use Rattle.dfr_script.proofs.set_up.opening_of.Given as goal

abbrev pub invariant-loop-line : goal.invariant-loop-line
invariant-loop-line g l = record {
  within : l.count ≤ length l.fn.lines;
  left : l.lines ≡ drop l.count l.fn.lines;
  ahead : position_or_len is_go l.fn.lines ≡ l.count + position_or_len is_go l.lines;
  said : draft l.fn.first l.fn.lines l.count ≡ Ok l.draft;
}

abbrev pub decreases-loop-line : goal.decreases-loop-line
decreases-loop-line g l = length l.lines
