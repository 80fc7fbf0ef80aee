use Rattle.std.proofs.Common.{◌≡◌, ◌≤◌, length}
use Rattle.comtrade_values.specs.Lines.{texts, drop_end, is_blank_line}
use Rattle.comtrade_values.proofs.lines.without_blank_end.Given as goal

abbrev pub invariant-loop-left : goal.invariant-loop-left
invariant-loop-left l = record {
  within : length l.left ≤ length l.lines;
  same : drop_end is_blank_line (texts l.left) ≡ drop_end is_blank_line (texts l.lines);
}

abbrev pub decreases-loop-left : goal.decreases-loop-left
decreases-loop-left l = length l.left
