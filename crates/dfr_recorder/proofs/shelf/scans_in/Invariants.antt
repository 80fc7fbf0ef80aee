use Rattle.std.proofs.Common.{◌≡◌, take}
use Rattle.dfr_recorder.specs.Kept.{scans_in}
use Rattle.dfr_recorder.proofs.shelf.scans_in.Given as goal

-- the records so far
abbrev pub invariant-loop-i : goal.invariant-loop-i
invariant-loop-i g l = l.all ≡ scans_in (take l.i l.shelf.items)
