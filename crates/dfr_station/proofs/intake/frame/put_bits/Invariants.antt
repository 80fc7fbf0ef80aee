use Rattle.std.proofs.Common.{◌≡◌, ◌≤◌, ◌*◌}
use Rattle.std.specs.Vec.{vec_len, vec_capacity}
use Rattle.comtrade_format.specs.Packed.{bits_at}
use Rattle.dfr_station.proofs.intake.frame.put_bits.Given as goal

abbrev pub invariant-loop-i : goal.invariant-loop-i
invariant-loop-i g l = record {
  items : l.bits.items ≡ bits_at (16 * l.i) l.words;
  len : vec_len l.bits ≡ 16 * l.i;
  room : l.count ≤ vec_capacity l.bits;
}
