use Rattle.std.proofs.Common.{◌≡◌, ◌-◌, []}
use Rattle.comtrade_read.specs.Line.{each}
use Rattle.comtrade_read.specs.Head.{last_sample, next_rate}
use Rattle.comtrade_read.proofs.settings.rates_of.Given as goal

abbrev pub invariant-loop-i : goal.invariant-loop-i
invariant-loop-i g l = record {
  sound : each next_rate l.count [] l.fn.left ≡ each next_rate (l.count - l.i) l.list.items l.left;
  last : l.before ≡ last_sample l.list.items;
}
