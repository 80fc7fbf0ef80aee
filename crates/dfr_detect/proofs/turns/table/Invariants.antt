use Rattle.dfr_detect.specs.Turns.{IsTable}
use Rattle.dfr_detect.proofs.turns.table.Given as goal

abbrev pub invariant-loop-i : goal.invariant-loop-i
invariant-loop-i g l = IsTable l.n l.i l.first l.other l.table.items
