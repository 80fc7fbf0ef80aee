use Rattle.std.proofs.Common.{◌≡◌}
use Rattle.dfrd.proofs.folder.Folder.remove_next.Given as goal

abbrev pub invariant-loop-at : goal.invariant-loop-at
invariant-loop-at g l = l.self.pairs ≡ l.initial.self.pairs
