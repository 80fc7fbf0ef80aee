use Rattle.std.proofs.Common.{◌≡◌, ◌≤◌}
use Rattle.std.specs.Vec.{vec_len, vec_capacity}
use Rattle.comtrade_format.specs.Packed.{values_at}
use Rattle.comtrade_format.proofs.packed.packed_values.Given as goal

abbrev pub invariant-loop-i : goal.invariant-loop-i
invariant-loop-i g l = record {
  items : l.values.items ≡ values_at l.i l.bytes;
  len : vec_len l.values ≡ l.i;
  room : l.count ≤ vec_capacity l.values;
}
