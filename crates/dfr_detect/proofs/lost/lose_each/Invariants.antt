use Rattle.std.proofs.Common.{List, [], Bool}
use Rattle.dfr_detect.proofs.Each.{Stepped}
use Rattle.dfr_detect.proofs.lost.lose_each.Given as goal

abbrev pub invariant-loop-detector : goal.invariant-loop-detector
invariant-loop-detector g l = (after : List Bool) × Stepped l.fn.list [] [] after l.list l.detector-index
