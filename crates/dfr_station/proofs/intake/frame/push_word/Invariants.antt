use Rattle.std.proofs.Common.{◌≡◌, ◌+◌, ◌++◌}
use Rattle.std.specs.Vec.{vec_len, vec_capacity}
use Rattle.comtrade_format.specs.Packed.{group_bits}
use Rattle.dfr_station.proofs.intake.frame.push_word.Given as goal

abbrev pub invariant-loop-i : goal.invariant-loop-i
invariant-loop-i g l = record {
  items : l.bits.items ≡ l.initial.bits.items ++ group_bits l.i l.word;
  len : vec_len l.bits ≡ vec_len l.initial.bits + l.i;
  capacity : vec_capacity l.bits ≡ vec_capacity l.initial.bits;
}
