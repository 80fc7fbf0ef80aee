use Rattle.std.proofs.Common.{◌≡◌, ◌+◌, drop}
use Rattle.comtrade_values.specs.Faults.{◌or◌}
use Rattle.comtrade_format.specs.Refusals.{rows_refusal, rows_from, stamps_from}
use Rattle.comtrade_format.proofs.checks.rows_fault.Given as goal

-- what is still to be looked at, and the first stamp's fault so far, answer for all of it
abbrev pub invariant-loop-i : goal.invariant-loop-i
invariant-loop-i g l = (rows_from l.m (1 + l.i) (drop l.i l.rows) or l.late or stamps_from l.m (1 + l.i) (drop l.i l.rows)) ≡ rows_refusal l.m l.rows
