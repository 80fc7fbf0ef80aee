use Rattle.std.proofs.Common.{◌≡◌, ◌*◌, take}
use Rattle.std.specs.List.{flat_map, range_with_len}
use Rattle.comtrade_format.specs.Binary.{group_bytes}
use Rattle.comtrade_format.proofs.rows_binary.write_status.Given as goal

abbrev pub invariant-loop-i : goal.invariant-loop-i
invariant-loop-i l = take (2 * l.i) l.slot ≡ flat_map (group_bytes l.bits) (range_with_len 0 l.i)
