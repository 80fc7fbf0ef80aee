use Rattle.std.proofs.Common.{refl, ⊎_elim}
use Rattle.dfr_folder.specs.Directory.{Content, SameBut}
use Rattle.dfr_folder.proofs.Moments.{begins, goes_on}
use Rattle.dfr_folder.proofs.pairs.store.Goals as goal

pub returns-in_err-write-clause-any_moment : goal.returns-in_err-write-clause-any_moment
returns-in_err-write-clause-any_moment g c =
    let M = g.D.Directory.may_leave in
    begins M g.D.Directory.left_since _ _ _ c.write.ensures.time
    (λ d left. ⊎_elim (λ (was : M c.args.directory.now d). (d, was, λ n differ. refl)) (λ changed. changed) (c.write.ensures.crash d left))

pub returns-clause-any_moment : goal.returns-clause-any_moment
returns-clause-any_moment g c =
    let M = g.D.Directory.may_leave in
    let first = begins M g.D.Directory.left_since c.args.directory.now c.write.new.self (λ d. (b : Content) × M c.args.directory.now b × SameBut c.args.name b d) c.write.ensures.time
    (λ d left. ⊎_elim (λ (was : M c.args.directory.now d). (d, was, λ n differ. refl)) (λ changed. changed) (c.write.ensures.crash d left)) in
    goes_on M g.D.Directory.left_since c.args.directory.now c.write.new.self c.sync.new.self _ first c.sync.ensures.time (λ d left. first.after d (c.sync.ensures.crash d left))
