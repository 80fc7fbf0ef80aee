use Rattle.std.proofs.Common.{◌≡◌, ◌*◌, ◌++◌, map, drop}
use Rattle.comtrade_format.specs.Packed.{bits_at}
use Rattle.comtrade_c.specs.Tables.{bit_of}
use Rattle.comtrade_c.proofs.binary.put_row_bits.Given as goal

abbrev pub invariant-loop-g : goal.invariant-loop-g
invariant-loop-g l = l.to ≡ map bit_of (bits_at (16 * l.g) l.bytes) ++ drop (16 * l.g) l.initial.to
