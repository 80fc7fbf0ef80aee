use Rattle.comtrade_format.specs.Borders.{Seen}
use Rattle.comtrade_c.specs.Times.{stamp_at}
use Rattle.comtrade_c.proofs.times.border_in.Given as goal

abbrev pub invariant-loop-k : goal.invariant-loop-k
invariant-loop-k g l = Seen l.head (stamp_at l.stamps) l.k l.search
