use Rattle.dfr_folder.specs.Found.{AreAll}
use Rattle.dfr_folder.proofs.seen.found_in.Given as goal

abbrev pub invariant-loop-seen : goal.invariant-loop-seen
invariant-loop-seen g l = AreAll l.found
