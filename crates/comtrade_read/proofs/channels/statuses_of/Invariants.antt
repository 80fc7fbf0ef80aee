use Rattle.std.proofs.Common.{◌≡◌, ◌-◌, [], length}
use Rattle.comtrade_read.specs.Line.{each}
use Rattle.comtrade_read.specs.Head.{next_status}
use Rattle.comtrade_read.proofs.channels.statuses_of.Given as goal

abbrev pub invariant-loop-i : goal.invariant-loop-i
invariant-loop-i g l = record {
  sound : each next_status l.count [] l.fn.left ≡ each next_status (l.count - l.i) l.list.items l.left;
  long : length l.list.items ≡ l.i;
}
