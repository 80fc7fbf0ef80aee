use Rattle.std.proofs.Common.{◌≡◌, ◌-◌, ◌≤◌, length, take}
use Rattle.std.specs.Io.KnownBytes.{Appends}
use Rattle.comtrade_values.proofs.output.write_all_of.Given as goal

abbrev pub invariant-loop-written : goal.invariant-loop-written
invariant-loop-written g l = record {
  within : l.written ≤ length l.bytes;
  bytes : Appends (g.W.Write.contents l.initial.w) (g.W.Write.contents l.w) (take l.written l.bytes);
  none : length l.bytes ≡ 0 → l.w ≡ l.initial.w;
}

abbrev pub decreases-loop-written : goal.decreases-loop-written
decreases-loop-written g l = length l.bytes - l.written
