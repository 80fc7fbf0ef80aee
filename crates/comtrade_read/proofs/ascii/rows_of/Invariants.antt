use Rattle.std.proofs.Common.{◌≡◌, ◌-◌, []}
use Rattle.comtrade_read.specs.Line.{each}
use Rattle.comtrade_read.specs.Ascii.{row_line}
use Rattle.comtrade_read.proofs.ascii.rows_of.Given as goal

abbrev pub invariant-loop-i : goal.invariant-loop-i
invariant-loop-i g l = each (λ before. row_line l.k l.m) l.count [] l.fn.left ≡ each (λ before. row_line l.k l.m) (l.count - l.i) l.list.items l.left
