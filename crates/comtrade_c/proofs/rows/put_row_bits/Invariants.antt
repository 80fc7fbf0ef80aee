use Rattle.std.proofs.Common.{◌≡◌, ◌++◌, take, drop}
use Rattle.std.specs.Prelude.{map}
use Rattle.comtrade_c.specs.Tables.{bit_of}
use Rattle.comtrade_c.proofs.rows.put_row_bits.Given as goal

abbrev pub invariant-loop-k : goal.invariant-loop-k
invariant-loop-k l = l.to ≡ map bit_of (take l.k l.bits) ++ drop l.k l.initial.to
