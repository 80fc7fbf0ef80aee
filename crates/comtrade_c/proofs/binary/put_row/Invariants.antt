use Rattle.std.proofs.Common.{◌≡◌, ◌++◌, length, map, take, drop}
use Rattle.comtrade_format.specs.Packed.{values_at}
use Rattle.comtrade_c.specs.Tables.{sample_of}
use Rattle.comtrade_c.proofs.binary.put_row.Given as goal

abbrev pub invariant-loop-k : goal.invariant-loop-k
invariant-loop-k l = l.to ≡ map sample_of (take l.k (values_at (length l.initial.to) l.bytes)) ++ drop l.k l.initial.to
