use Rattle.std.proofs.Common.{◌≡◌, ◌++◌, length, map, take, drop}
use Rattle.comtrade_format.specs.Packed.{group_bits}
use Rattle.comtrade_c.specs.Tables.{bit_of}
use Rattle.comtrade_c.proofs.binary.put_group.Given as goal

abbrev pub invariant-loop-k : goal.invariant-loop-k
invariant-loop-k l = l.to ≡ map bit_of (take l.k (group_bits (length l.initial.to) l.group)) ++ drop l.k l.initial.to
