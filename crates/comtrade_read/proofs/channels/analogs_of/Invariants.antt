use Rattle.std.proofs.Common.{◌≡◌, ◌-◌, [], length}
use Rattle.comtrade_read.specs.Line.{each}
use Rattle.comtrade_read.specs.Head.{next_analog}
use Rattle.comtrade_read.proofs.channels.analogs_of.Given as goal

abbrev pub invariant-loop-i : goal.invariant-loop-i
invariant-loop-i g l = record {
  sound : each next_analog l.count [] l.fn.left ≡ each next_analog (l.count - l.i) l.list.items l.left;
  long : length l.list.items ≡ l.i;
}
