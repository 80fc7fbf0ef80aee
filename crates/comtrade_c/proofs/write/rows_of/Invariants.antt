use Rattle.std.proofs.Common.{◌≡◌, ◌+◌, ◌++◌, drop}
use Rattle.comtrade_c.specs.Writing.{rows_from}
use Rattle.comtrade_c.proofs.write.rows_of.Given as goal

abbrev pub invariant-loop-k : goal.invariant-loop-k
invariant-loop-k l =
    l.rows.items ++ rows_from l.analog l.status (l.k + 1) (drop l.k l.stamps) l.samples l.bits
    ≡ rows_from l.analog l.status 1 l.stamps l.initial.samples l.initial.bits
