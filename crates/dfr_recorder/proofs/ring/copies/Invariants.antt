use Rattle.std.proofs.Common.{◌≡◌, take, drop}
use Rattle.dfr_recorder.proofs.ring.copies.Given as goal

abbrev pub invariant-loop-i : goal.invariant-loop-i
invariant-loop-i g l = l.scans.items ≡ drop l.skip (take l.i l.ring.items)
