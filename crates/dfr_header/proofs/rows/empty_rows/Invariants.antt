use Rattle.std.proofs.Common.{◌≡◌, ◌+◌, ◌-◌, ◌≤◌, length}
use Rattle.dfr_header.specs.Rows.{empty_rows}
use Rattle.dfr_header.proofs.rows.empty_rows.Given as goal

-- those counted and those left are all
abbrev pub invariant-loop-row : goal.invariant-loop-row
invariant-loop-row l = record {
  few : l.count ≤ l.row;
  all : l.count + empty_rows l.size l.missing l.left (length l.dat - l.row) ≡ empty_rows l.size l.missing l.dat (length l.dat);
}
