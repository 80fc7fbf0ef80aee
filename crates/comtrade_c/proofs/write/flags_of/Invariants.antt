use Rattle.std.proofs.Common.{◌≡◌, take}
use Rattle.std.specs.Prelude.{map}
use Rattle.comtrade_c.specs.Writing.{flag_of}
use Rattle.comtrade_c.proofs.write.flags_of.Given as goal

abbrev pub invariant-loop-bit : goal.invariant-loop-bit
invariant-loop-bit l = l.list.items ≡ map flag_of (take l.bit-index l.bits)
