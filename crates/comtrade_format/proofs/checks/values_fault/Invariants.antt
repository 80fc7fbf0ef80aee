use Rattle.std.proofs.Common.{◌≡◌, ◌+◌, drop}
use Rattle.comtrade_format.specs.Refusals.{values_from}
use Rattle.comtrade_format.proofs.checks.values_fault.Given as goal

-- what is still to be looked at answers for all of it
abbrev pub invariant-loop-i : goal.invariant-loop-i
invariant-loop-i l = values_from l.m l.row (1 + l.i) (drop l.i l.values) ≡ values_from l.m l.row 1 l.values
