use Rattle.std.proofs.Common.{◌≡◌, ◌⊎◌, ◌≤◌, length}
use Rattle.std.specs.Prelude.{Contains}
use Rattle.dfr_folder.specs.declared.name.Ending.{Ending}
use Rattle.dfr_folder.specs.declared.name.Key.{Key}
use Rattle.dfr_folder.specs.Directory.{LeavesOnly}
use Rattle.dfr_folder.specs.Pairs.{seen, IsAtRest, IsMending, AllMend, MendsOne, tidied}
use Rattle.dfr_folder.proofs.Everyone.{IsDone}
use Rattle.dfr_folder.proofs.recovery.tidy_all.Given as goal

abbrev pub invariant-loop-key : goal.invariant-loop-key
invariant-loop-key g l =
    let F = g.D.Directory.files in
    let M = g.D.Directory.may_leave in
    let old = l.fn.directory in
    record {
      moments : LeavesOnly M g.D.Directory.left_since old l.directory (AllMend F old);
      from : LeavesOnly M g.D.Directory.left_since old l.directory (MendsOne M old);
      rests : (key : Key) → IsAtRest F M l.directory key;
      mends : (key : Key) → IsMending (seen F old key) (seen F l.directory key);
      same : (key : Key) (end : Ending) → tidied (seen F l.directory key) end ≡ tidied (seen F old key) end;
      todo : (key : Key) → Contains l.keys.items key ⊎ IsDone F M old l.directory key;
      time : g.D.Directory.failures old ≤ g.D.Directory.failures l.directory;
    }

abbrev pub decreases-loop-key : goal.decreases-loop-key
decreases-loop-key g l = length l.keys.items
