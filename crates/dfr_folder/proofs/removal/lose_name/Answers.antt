use Rattle.std.proofs.Common.{◌∙◌, ap}
use Rattle.dfr_folder.specs.declared.name.Ending.TheVariants as ending
use Rattle.dfr_folder.specs.Pairs.{synced, seen, found, Beside, IsNoneOr}
use Rattle.dfr_folder.proofs.Moments.{begins, goes_on}
use Rattle.dfr_folder.proofs.Beside.{implied}
use Rattle.dfr_folder.proofs.Leaving.{no_gone, IsLosing, losing, losing_is, back_is, giving_back}
use Rattle.dfr_folder.proofs.removal.lose_name.Goals as goal

pub rename-requires : goal.rename-requires
rename-requires g c =
    let F = g.D.Directory.files in
    let none = no_gone (seen F c.args.directory.now c.args.key) c.requires.tidy in
    record { unused = c.requires.rests.seen ending.Gone ∙ ap synced none }

pub returns-in_err-rename-clause-any_moment : goal.returns-in_err-rename-clause-any_moment
returns-in_err-rename-clause-any_moment g c =
    let F = g.D.Directory.files in
    let M = g.D.Directory.may_leave in
    let L = g.D.Directory.left_since in
    let k = c.args.key in
    let s0 = c.args.directory.now in
    let h = seen F s0 k in
    let tidy = c.requires.tidy in
    let P = Beside M s0 k (IsNoneOr (found h)) in
    let s1 = c.rename.new.self in
    let t1 = losing F M k s0 s1 c.requires.rests c.rename.ensures.crash in
    let p1 = begins M L s0 s1 P c.rename.ensures.time (λ d left. implied F M k s0 _ _ (losing_is F M k h tidy) d (t1 d left)) in
    p1

pub returns-in-Ok-clause-any_moment : goal.returns-in-Ok-clause-any_moment
returns-in-Ok-clause-any_moment g c =
    let F = g.D.Directory.files in
    let M = g.D.Directory.may_leave in
    let L = g.D.Directory.left_since in
    let k = c.args.key in
    let s0 = c.args.directory.now in
    let h = seen F s0 k in
    let tidy = c.requires.tidy in
    let P = Beside M s0 k (IsNoneOr (found h)) in
    let s1 = c.rename.new.self in
    let t1 = losing F M k s0 s1 c.requires.rests c.rename.ensures.crash in
    let p1 = begins M L s0 s1 P c.rename.ensures.time (λ d left. implied F M k s0 _ _ (losing_is F M k h tidy) d (t1 d left)) in
    let s2 = c.sync_names.new.self in
    let p2 = goes_on M L s0 s1 s2 P p1 c.sync_names.ensures.time (λ d left. p1.after d (c.sync_names.ensures.crash d left)) in
    p2

pub returns-in-Err-clause-any_moment : goal.returns-in-Err-clause-any_moment
returns-in-Err-clause-any_moment g c =
    let F = g.D.Directory.files in
    let M = g.D.Directory.may_leave in
    let L = g.D.Directory.left_since in
    let k = c.args.key in
    let s0 = c.args.directory.now in
    let h = seen F s0 k in
    let tidy = c.requires.tidy in
    let P = Beside M s0 k (IsNoneOr (found h)) in
    let s1 = c.rename.new.self in
    let t1 = losing F M k s0 s1 c.requires.rests c.rename.ensures.crash in
    let p1 = begins M L s0 s1 P c.rename.ensures.time (λ d left. implied F M k s0 _ _ (losing_is F M k h tidy) d (t1 d left)) in
    let s2 = c.sync_names.new.self in
    let p2 = goes_on M L s0 s1 s2 P p1 c.sync_names.ensures.time (λ d left. p1.after d (c.sync_names.ensures.crash d left)) in
    let s3 = c.rename-in-Err.new.self in
    goes_on M L s0 s2 s3 P p2 c.rename-in-Err.ensures.time
    (giving_back F M k s0 s2 s3 (IsLosing F M k h) (λ d left. t1 d (c.sync_names.ensures.crash d left)) (back_is F M k h tidy) (losing_is F M k h tidy) c.rename-in-Err.ensures.crash)
