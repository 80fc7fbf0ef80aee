use Rattle.std.proofs.Common.{◌≡◌, ◌-◌, ◌^◌, ◌<◌, drop, length}
use Rattle.comtrade_format.specs.Binary.{bits_number}
use Rattle.comtrade_format.proofs.rows_binary.group_of.Given as goal

abbrev pub invariant-loop-i : goal.invariant-loop-i
invariant-loop-i l = record {
  so_far : l.group ≡ bits_number (drop (length l.bits - l.i) l.bits);
  small : l.group < 2 ^ l.i;
}
