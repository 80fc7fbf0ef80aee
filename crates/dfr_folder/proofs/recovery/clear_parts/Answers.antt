use Rattle.std.proofs.Common.{◌≡◌, refl}
use Rattle.dfr_folder.specs.declared.name.Ending.{Ending}
use Rattle.dfr_folder.specs.declared.name.Ending.TheVariants as ending
use Rattle.dfr_folder.specs.Pairs.{name, synced, seen, Beside, IsMending}
use Rattle.dfr_folder.proofs.Moments.{begins, goes_on}
use Rattle.dfr_folder.proofs.Beside.{apart, implied}
use Rattle.dfr_folder.proofs.Thinned.{is_part, without, parts_mend}
use Rattle.dfr_folder.proofs.Rest.{see_no_parts, at_rest, settled, removed, thin_leaves}
use Rattle.dfr_folder.proofs.recovery.clear_parts.Goals as goal

pub returns-in_err-remove-2-clause-any_moment : goal.returns-in_err-remove-2-clause-any_moment
returns-in_err-remove-2-clause-any_moment g c =
    let F = g.D.Directory.files in
    let M = g.D.Directory.may_leave in
    let k = c.args.key in
    let s0 = c.args.directory.now in
    let h = seen F s0 k in
    let L = g.D.Directory.left_since in
    let P = Beside M s0 k (IsMending h) in
    let s1 = c.remove.new.self in
    let t1 = removed F M k is_part h s0 s0 s1 ending.ConfigPart refl (thin_leaves F M k is_part s0 c.requires.rests) c.remove.ensures.crash in
    let m1 = begins M L s0 s1 P c.remove.ensures.time (λ d left. implied F M k s0 _ _ (λ f thin. parts_mend h f c.requires.named thin) d (t1 d left)) in
    let s2 = c.remove-2.new.self in
    let t2 = removed F M k is_part h s0 s1 s2 ending.DataPart refl t1 c.remove-2.ensures.crash in
    let m2 = goes_on M L s0 s1 s2 P m1 c.remove-2.ensures.time (λ d left. implied F M k s0 _ _ (λ f thin. parts_mend h f c.requires.named thin) d (t2 d left)) in
    m2

pub returns-in_err-sync_names-clause-any_moment : goal.returns-in_err-sync_names-clause-any_moment
returns-in_err-sync_names-clause-any_moment g c =
    let F = g.D.Directory.files in
    let M = g.D.Directory.may_leave in
    let k = c.args.key in
    let s0 = c.args.directory.now in
    let h = seen F s0 k in
    let L = g.D.Directory.left_since in
    let P = Beside M s0 k (IsMending h) in
    let s1 = c.remove.new.self in
    let t1 = removed F M k is_part h s0 s0 s1 ending.ConfigPart refl (thin_leaves F M k is_part s0 c.requires.rests) c.remove.ensures.crash in
    let m1 = begins M L s0 s1 P c.remove.ensures.time (λ d left. implied F M k s0 _ _ (λ f thin. parts_mend h f c.requires.named thin) d (t1 d left)) in
    let s2 = c.remove-2.new.self in
    let t2 = removed F M k is_part h s0 s1 s2 ending.DataPart refl t1 c.remove-2.ensures.crash in
    let m2 = goes_on M L s0 s1 s2 P m1 c.remove-2.ensures.time (λ d left. implied F M k s0 _ _ (λ f thin. parts_mend h f c.requires.named thin) d (t2 d left)) in
    let s3 = c.sync_names.new.self in
    goes_on M L s0 s2 s3 P m2 c.sync_names.ensures.time (λ d left. m2.after d (c.sync_names.ensures.crash d left))

pub returns-clause-any_moment : goal.returns-clause-any_moment
returns-clause-any_moment g c =
    let F = g.D.Directory.files in
    let M = g.D.Directory.may_leave in
    let k = c.args.key in
    let s0 = c.args.directory.now in
    let h = seen F s0 k in
    let L = g.D.Directory.left_since in
    let P = Beside M s0 k (IsMending h) in
    let s1 = c.remove.new.self in
    let t1 = removed F M k is_part h s0 s0 s1 ending.ConfigPart refl (thin_leaves F M k is_part s0 c.requires.rests) c.remove.ensures.crash in
    let m1 = begins M L s0 s1 P c.remove.ensures.time (λ d left. implied F M k s0 _ _ (λ f thin. parts_mend h f c.requires.named thin) d (t1 d left)) in
    let s2 = c.remove-2.new.self in
    let t2 = removed F M k is_part h s0 s1 s2 ending.DataPart refl t1 c.remove-2.ensures.crash in
    let m2 = goes_on M L s0 s1 s2 P m1 c.remove-2.ensures.time (λ d left. implied F M k s0 _ _ (λ f thin. parts_mend h f c.requires.named thin) d (t2 d left)) in
    let s3 = c.sync_names.new.self in
    goes_on M L s0 s2 s3 P m2 c.sync_names.ensures.time (λ d left. m2.after d (c.sync_names.ensures.crash d left))

pub returns-clause-rests : goal.returns-clause-rests
returns-clause-rests g c =
    let F = g.D.Directory.files in
    let M = g.D.Directory.may_leave in
    let k = c.args.key in
    let s0 = c.args.directory.now in
    let h = seen F s0 k in
    let s1 = c.remove.new.self in
    let s2 = c.remove-2.new.self in
    let s3 = c.sync_names.new.self in
    let is : (e : Ending) → F s2 (name k e) ≡ synced (without is_part h e) = see_no_parts h (λ e. F s0 (name k e)) (λ e. F s1 (name k e)) (λ e. F s2 (name k e)) c.requires.rests.seen
    (λ e differ. c.remove.ensures.elsewhere (name k e) (apart k e ending.ConfigPart differ)) c.in_ok-remove.ensures.gone
    (λ e differ. c.remove-2.ensures.elsewhere (name k e) (apart k e ending.DataPart differ)) c.in_ok-remove-2.ensures.gone in
    at_rest F M k s3 (without is_part h) (settled F M k s2 s3 (without is_part h) is c.sync_names.ensures.same c.in_ok-sync_names.ensures.stays)
