use Rattle.dfr_folder.proofs.Moments.{begins}
use Rattle.dfr_folder.proofs.pairs.settle.Goals as goal

pub returns-in_err-rename-clause-any_moment : goal.returns-in_err-rename-clause-any_moment
returns-in_err-rename-clause-any_moment g c = begins g.D.Directory.may_leave g.D.Directory.left_since _ _ _ c.rename.ensures.time c.rename.ensures.crash
