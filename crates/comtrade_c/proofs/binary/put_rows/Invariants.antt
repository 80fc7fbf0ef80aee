use Rattle.std.proofs.Common.{◌≡◌, ◌++◌, length, take, drop}
use Rattle.comtrade_read.specs.Inner.BinaryRows.{rows_at}
use Rattle.comtrade_c.specs.Tables.{stamps_of, row_samples, row_bits}
use Rattle.comtrade_c.proofs.Filled.{Filled}
use Rattle.comtrade_c.proofs.binary.put_rows.Given as goal

abbrev pub invariant-loop-i : goal.invariant-loop-i
invariant-loop-i l =
    let rows = rows_at l.k l.m l.dat (length l.initial.stamps) in record {
      stamps : l.stamps ≡ stamps_of (take l.i rows) ++ drop l.i l.initial.stamps;
      samples : Filled row_samples rows l.i l.samples l.initial.samples l.sample;
      bits : Filled row_bits rows l.i l.bits l.initial.bits l.bit;
    }
