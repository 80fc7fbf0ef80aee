use Rattle.std.proofs.Common.{◌≡◌, ◌++◌, take, drop}
use Rattle.comtrade_c.specs.Tables.{stamps_of, row_samples, row_bits}
use Rattle.comtrade_c.proofs.Filled.{Filled}
use Rattle.comtrade_c.proofs.rows.put_rows.Given as goal

abbrev pub invariant-loop-i : goal.invariant-loop-i
invariant-loop-i l = record {
  stamps : l.stamps ≡ stamps_of (take l.i l.rows) ++ drop l.i l.initial.stamps;
  samples : Filled row_samples l.rows l.i l.samples l.initial.samples l.sample;
  bits : Filled row_bits l.rows l.i l.bits l.initial.bits l.bit;
}
