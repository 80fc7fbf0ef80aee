use Rattle.std.proofs.Common.{◌∙◌}
use Rattle.dfr_folder.specs.Pairs.{seen, Beside, IsMending}
use Rattle.dfr_folder.proofs.Moments.{begins, joined}
use Rattle.dfr_folder.proofs.Mends.{same_mends, same_tidied, mends_on}
use Rattle.dfr_folder.proofs.Rest.{rests_on, seen_is, rest_mends, onward}
use Rattle.dfr_folder.proofs.recovery.tidy.Goals as goal

pub returns-in_err-clear_parts-clause-any_moment : goal.returns-in_err-clear_parts-clause-any_moment
returns-in_err-clear_parts-clause-any_moment g c =
    let F = g.D.Directory.files in
    let M = g.D.Directory.may_leave in
    let k = c.args.key in
    let s0 = c.args.directory.now in
    let h = seen F s0 k in
    let L = g.D.Directory.left_since in
    let P = Beside M s0 k (IsMending h) in
    let s1 = c.look.new.self in
    let r1 = rests_on F M k s0 s1 c.requires.rests c.look.ensures.same c.look.ensures.crash in
    let mends1 = same_mends h (seen F s1 k) (seen_is F M k s1 h r1) in
    let p1 = begins M L s0 s1 P c.look.ensures.time (λ d left. rest_mends F M k s0 c.requires.rests d (c.look.ensures.crash d left)) in
    let s2 = c.complete.new.directory in
    let p2 = joined M L s0 s1 s2 P _ p1 c.complete.ensures.any_moment (λ d b. onward F M k s0 s1 p1.after mends1 d b) in
    let mends2 = mends_on h (seen F s1 k) (seen F s2 k) mends1 c.in_ok-complete.ensures.mends in
    let s3 = c.clear_parts.new.directory in
    let p3 = joined M L s0 s2 s3 P _ p2 c.clear_parts.ensures.any_moment (λ d b. onward F M k s0 s2 p2.after mends2 d b) in
    p3

pub returns-in_err-clear_rest-clause-any_moment : goal.returns-in_err-clear_rest-clause-any_moment
returns-in_err-clear_rest-clause-any_moment g c =
    let F = g.D.Directory.files in
    let M = g.D.Directory.may_leave in
    let k = c.args.key in
    let s0 = c.args.directory.now in
    let h = seen F s0 k in
    let L = g.D.Directory.left_since in
    let P = Beside M s0 k (IsMending h) in
    let s1 = c.look.new.self in
    let r1 = rests_on F M k s0 s1 c.requires.rests c.look.ensures.same c.look.ensures.crash in
    let mends1 = same_mends h (seen F s1 k) (seen_is F M k s1 h r1) in
    let p1 = begins M L s0 s1 P c.look.ensures.time (λ d left. rest_mends F M k s0 c.requires.rests d (c.look.ensures.crash d left)) in
    let s2 = c.complete.new.directory in
    let p2 = joined M L s0 s1 s2 P _ p1 c.complete.ensures.any_moment (λ d b. onward F M k s0 s1 p1.after mends1 d b) in
    let mends2 = mends_on h (seen F s1 k) (seen F s2 k) mends1 c.in_ok-complete.ensures.mends in
    let s3 = c.clear_parts.new.directory in
    let p3 = joined M L s0 s2 s3 P _ p2 c.clear_parts.ensures.any_moment (λ d b. onward F M k s0 s2 p2.after mends2 d b) in
    let mends3 = mends_on h (seen F s2 k) (seen F s3 k) mends2 c.in_ok-clear_parts.ensures.mends in
    let s4 = c.clear_rest.new.directory in
    joined M L s0 s3 s4 P _ p3 c.clear_rest.ensures.any_moment (λ d b. onward F M k s0 s3 p3.after mends3 d b)

pub returns-clause-any_moment : goal.returns-clause-any_moment
returns-clause-any_moment g c =
    let F = g.D.Directory.files in
    let M = g.D.Directory.may_leave in
    let k = c.args.key in
    let s0 = c.args.directory.now in
    let h = seen F s0 k in
    let L = g.D.Directory.left_since in
    let P = Beside M s0 k (IsMending h) in
    let s1 = c.look.new.self in
    let r1 = rests_on F M k s0 s1 c.requires.rests c.look.ensures.same c.look.ensures.crash in
    let mends1 = same_mends h (seen F s1 k) (seen_is F M k s1 h r1) in
    let p1 = begins M L s0 s1 P c.look.ensures.time (λ d left. rest_mends F M k s0 c.requires.rests d (c.look.ensures.crash d left)) in
    let s2 = c.complete.new.directory in
    let p2 = joined M L s0 s1 s2 P _ p1 c.complete.ensures.any_moment (λ d b. onward F M k s0 s1 p1.after mends1 d b) in
    let mends2 = mends_on h (seen F s1 k) (seen F s2 k) mends1 c.in_ok-complete.ensures.mends in
    let s3 = c.clear_parts.new.directory in
    let p3 = joined M L s0 s2 s3 P _ p2 c.clear_parts.ensures.any_moment (λ d b. onward F M k s0 s2 p2.after mends2 d b) in
    let mends3 = mends_on h (seen F s2 k) (seen F s3 k) mends2 c.in_ok-clear_parts.ensures.mends in
    let s4 = c.clear_rest.new.directory in
    joined M L s0 s3 s4 P _ p3 c.clear_rest.ensures.any_moment (λ d b. onward F M k s0 s3 p3.after mends3 d b)

pub returns-clause-clean : goal.returns-clause-clean
returns-clause-clean g c =
    let F = g.D.Directory.files in
    let M = g.D.Directory.may_leave in
    let k = c.args.key in
    let s0 = c.args.directory.now in
    let h = seen F s0 k in
    let s1 = c.look.new.self in
    let r1 = rests_on F M k s0 s1 c.requires.rests c.look.ensures.same c.look.ensures.crash in
    λ e. c.in_ok-clear_rest.ensures.clean e ∙ c.in_ok-clear_parts.ensures.same e ∙ c.in_ok-complete.ensures.same e ∙ same_tidied h (seen F s1 k) (seen_is F M k s1 h r1) e
