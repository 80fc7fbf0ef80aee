use Rattle.std.proofs.Common.{◌≡◌, ◌≤◌, length, option_copied}
use Rattle.comtrade_values.specs.Lines.{lines_left, drop_end, is_blank_line}
use Rattle.comtrade_values.proofs.lines.Lines.without_blank_end.Given as goal

abbrev pub invariant-loop-lines : goal.invariant-loop-lines
invariant-loop-lines l = record {
  few : length (lines_left (option_copied l.lines-inside.left)) ≤ length l.fn.self;
  same : drop_end is_blank_line (lines_left (option_copied l.lines-inside.left)) ≡ drop_end is_blank_line l.fn.self;
}

abbrev pub decreases-loop-lines : goal.decreases-loop-lines
decreases-loop-lines l = length (lines_left (option_copied l.lines-inside.left))
