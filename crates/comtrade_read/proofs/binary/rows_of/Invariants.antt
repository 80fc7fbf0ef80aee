use Rattle.std.proofs.Common.{◌≡◌}
use Rattle.comtrade_read.specs.Inner.BinaryRows.{rows_at}
use Rattle.comtrade_read.proofs.binary.rows_of.Given as goal

abbrev pub invariant-loop-i : goal.invariant-loop-i
invariant-loop-i g l = l.rows.items ≡ rows_at l.k l.m l.dat l.i
