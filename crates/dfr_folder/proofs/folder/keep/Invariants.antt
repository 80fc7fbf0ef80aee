use Rattle.std.proofs.Common.{◌≤◌, ℕ, List, length}
use Rattle.dfr_folder.specs.declared.name.Key.{Key}
use Rattle.dfr_folder.specs.Directory.{Content, LeavesOnly}
use Rattle.dfr_folder.specs.Pairs.{GivesUp, AllWhole}
use Rattle.dfr_folder.proofs.Keeping.{Progress}
use Rattle.dfr_folder.proofs.folder.keep.Given as goal

abbrev pub invariant-loop-keys : goal.invariant-loop-keys
invariant-loop-keys g l =
    let F = g.D.Directory.files in
    let M = g.D.Directory.may_leave in
    let old = l.fn.directory in
    record {
      moments : LeavesOnly M g.D.Directory.left_since old l.directory (GivesUp F M old l.fn.keys.items);
      whole : (records : List (Key × List ℕ × List ℕ)) → ((c : Content) → M old c → AllWhole records c) → LeavesOnly M g.D.Directory.left_since old l.directory (AllWhole records);
      progress : Progress F M old l.fn.keys.items l.directory l.keys.items;
      time : g.D.Directory.failures old ≤ g.D.Directory.failures l.directory;
    }

abbrev pub decreases-loop-keys : goal.decreases-loop-keys
decreases-loop-keys g l = length l.keys.items
