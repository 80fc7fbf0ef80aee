use Rattle.std.proofs.Common.{◌≤◌, ℕ, List, length}
use Rattle.dfr_folder.specs.declared.name.Key.{Key}
use Rattle.dfr_folder.specs.Directory.{Content, LeavesOnly}
use Rattle.dfr_folder.specs.Pairs.{AllWhole}
use Rattle.dfr_folder.proofs.opened.mend_each.Given as goal

abbrev pub invariant-loop-key : goal.invariant-loop-key
invariant-loop-key g l =
    let M = g.D.Directory.may_leave in
    let old = l.fn.directory in
    record {
      whole : (records : List (Key × List ℕ × List ℕ)) → ((c : Content) → M old c → AllWhole records c) → LeavesOnly M g.D.Directory.left_since old l.directory (AllWhole records);
      later : g.D.Directory.failures old ≤ g.D.Directory.failures l.directory;
    }

abbrev pub decreases-loop-key : goal.decreases-loop-key
decreases-loop-key g l = length l.keys.items
