use Rattle.std.proofs.Common.{take}
use Rattle.comtrade_values.specs.Lines.{fields}
use Rattle.comtrade_values.specs.Fields.{bit}
use Rattle.comtrade_read.specs.Inner.PlainRows.{AreNext}
use Rattle.comtrade_values.proofs.PlainBits.{bits_from}
use Rattle.comtrade_read.proofs.plain_rows.write_bits.Given as goal

abbrev pub invariant-loop-i : goal.invariant-loop-i
invariant-loop-i l = AreNext bit (fields l.text) l.i (take l.i l.slot) (bits_from l.text l.count l.i)
