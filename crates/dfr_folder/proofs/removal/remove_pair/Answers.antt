use Rattle.std.proofs.Common.{◌≡◌, refl, ◌∙◌, inl}
use Rattle.dfr_folder.specs.declared.name.Ending.{Ending}
use Rattle.dfr_folder.specs.declared.name.Ending.TheVariants as ending
use Rattle.dfr_folder.specs.Pairs.{name, under, synced, seen, found, Beside, IsNoneOr}
use Rattle.dfr_folder.proofs.Moments.{goes_on}
use Rattle.dfr_folder.proofs.Beside.{apart, stayed, implied}
use Rattle.dfr_folder.proofs.Thinned.{is_rest}
use Rattle.dfr_folder.proofs.Rest.{removed, settled}
use Rattle.dfr_folder.proofs.Leaving.{after_gone, see_gone, removing, removing_is, thin_from, exact_from, see_nothing, still, is_back, giving_back}
use Rattle.dfr_folder.proofs.removal.remove_pair.Goals as goal

pub rename-requires : goal.rename-requires
rename-requires g c =
    record { unused = c.sync_names.ensures.same (name c.args.key ending.Config) ∙ c.in-Err.ensures.err (name c.args.key ending.Config) ∙ c.in_ok-lose_name.ensures.left }

pub returns-in_err-remove-in-Ok-clause-any_moment : goal.returns-in_err-remove-in-Ok-clause-any_moment
returns-in_err-remove-in-Ok-clause-any_moment g c =
    let F = g.D.Directory.files in
    let M = g.D.Directory.may_leave in
    let L = g.D.Directory.left_since in
    let k = c.args.key in
    let s0 = c.args.directory.now in
    let h = seen F s0 k in
    let tidy = c.requires.tidy in
    let P = Beside M s0 k (IsNoneOr (found h)) in
    let s1 = c.lose_name.new.directory in
    let p1 = c.lose_name.ensures.any_moment in
    let is : (e : Ending) → F s1 (name k e) ≡ synced (after_gone h e) = see_gone h (λ e. F s0 (name k e)) (λ e. F s1 (name k e)) c.requires.rests.seen
    (λ e not_from not_to. c.in_ok-lose_name.ensures.others (name k e) (apart k e ending.Config not_from) (apart k e ending.Gone not_to)) c.in_ok-lose_name.ensures.there c.in_ok-lose_name.ensures.left in
    let t1 = thin_from F M k is_rest s0 s1 _ (after_gone h) p1.after (stayed F M k s1 (after_gone h) is c.in_ok-lose_name.ensures.stays) in
    let s2 = c.remove.new.self in
    let t2 = removed F M k is_rest (after_gone h) s0 s1 s2 ending.Data refl t1 c.remove.ensures.crash in
    let p2 = goes_on M L s0 s1 s2 P p1 c.remove.ensures.time (λ d left. implied F M k s0 _ _ (removing_is h tidy) d (t2 d left)) in
    let s3 = c.remove-in-Ok.new.self in
    let t3 = removed F M k is_rest (after_gone h) s0 s2 s3 ending.Gone refl t2 c.remove-in-Ok.ensures.crash in
    goes_on M L s0 s2 s3 P p2 c.remove-in-Ok.ensures.time (λ d left. implied F M k s0 _ _ (removing_is h tidy) d (t3 d left))

pub returns-in_ok-remove-in-Ok-clause-any_moment : goal.returns-in_ok-remove-in-Ok-clause-any_moment
returns-in_ok-remove-in-Ok-clause-any_moment g c =
    let F = g.D.Directory.files in
    let M = g.D.Directory.may_leave in
    let L = g.D.Directory.left_since in
    let k = c.args.key in
    let s0 = c.args.directory.now in
    let h = seen F s0 k in
    let tidy = c.requires.tidy in
    let P = Beside M s0 k (IsNoneOr (found h)) in
    let s1 = c.lose_name.new.directory in
    let p1 = c.lose_name.ensures.any_moment in
    let is : (e : Ending) → F s1 (name k e) ≡ synced (after_gone h e) = see_gone h (λ e. F s0 (name k e)) (λ e. F s1 (name k e)) c.requires.rests.seen
    (λ e not_from not_to. c.in_ok-lose_name.ensures.others (name k e) (apart k e ending.Config not_from) (apart k e ending.Gone not_to)) c.in_ok-lose_name.ensures.there c.in_ok-lose_name.ensures.left in
    let t1 = thin_from F M k is_rest s0 s1 _ (after_gone h) p1.after (stayed F M k s1 (after_gone h) is c.in_ok-lose_name.ensures.stays) in
    let s2 = c.remove.new.self in
    let t2 = removed F M k is_rest (after_gone h) s0 s1 s2 ending.Data refl t1 c.remove.ensures.crash in
    let p2 = goes_on M L s0 s1 s2 P p1 c.remove.ensures.time (λ d left. implied F M k s0 _ _ (removing_is h tidy) d (t2 d left)) in
    let s3 = c.remove-in-Ok.new.self in
    let t3 = removed F M k is_rest (after_gone h) s0 s2 s3 ending.Gone refl t2 c.remove-in-Ok.ensures.crash in
    goes_on M L s0 s2 s3 P p2 c.remove-in-Ok.ensures.time (λ d left. implied F M k s0 _ _ (removing_is h tidy) d (t3 d left))

pub returns-in_ok-remove-in-Ok-clause-gone : goal.returns-in_ok-remove-in-Ok-clause-gone
returns-in_ok-remove-in-Ok-clause-gone g c =
    let F = g.D.Directory.files in
    let M = g.D.Directory.may_leave in
    let L = g.D.Directory.left_since in
    let k = c.args.key in
    let s0 = c.args.directory.now in
    let h = seen F s0 k in
    let tidy = c.requires.tidy in
    let P = Beside M s0 k (IsNoneOr (found h)) in
    let s1 = c.lose_name.new.directory in
    let p1 = c.lose_name.ensures.any_moment in
    let is : (e : Ending) → F s1 (name k e) ≡ synced (after_gone h e) = see_gone h (λ e. F s0 (name k e)) (λ e. F s1 (name k e)) c.requires.rests.seen
    (λ e not_from not_to. c.in_ok-lose_name.ensures.others (name k e) (apart k e ending.Config not_from) (apart k e ending.Gone not_to)) c.in_ok-lose_name.ensures.there c.in_ok-lose_name.ensures.left in
    let t1 = thin_from F M k is_rest s0 s1 _ (after_gone h) p1.after (stayed F M k s1 (after_gone h) is c.in_ok-lose_name.ensures.stays) in
    let s2 = c.remove.new.self in
    let t2 = removed F M k is_rest (after_gone h) s0 s1 s2 ending.Data refl t1 c.remove.ensures.crash in
    let p2 = goes_on M L s0 s1 s2 P p1 c.remove.ensures.time (λ d left. implied F M k s0 _ _ (removing_is h tidy) d (t2 d left)) in
    let s3 = c.remove-in-Ok.new.self in
    let t3 = removed F M k is_rest (after_gone h) s0 s2 s3 ending.Gone refl t2 c.remove-in-Ok.ensures.crash in
    λ d left. removing h tidy (under d k) (t3 d left).there

pub returns-in_ok-remove-in-Ok-clause-seen : goal.returns-in_ok-remove-in-Ok-clause-seen
returns-in_ok-remove-in-Ok-clause-seen g c =
    let F = g.D.Directory.files in
    let M = g.D.Directory.may_leave in
    let L = g.D.Directory.left_since in
    let k = c.args.key in
    let s0 = c.args.directory.now in
    let h = seen F s0 k in
    let tidy = c.requires.tidy in
    let P = Beside M s0 k (IsNoneOr (found h)) in
    let s1 = c.lose_name.new.directory in
    let p1 = c.lose_name.ensures.any_moment in
    let is : (e : Ending) → F s1 (name k e) ≡ synced (after_gone h e) = see_gone h (λ e. F s0 (name k e)) (λ e. F s1 (name k e)) c.requires.rests.seen
    (λ e not_from not_to. c.in_ok-lose_name.ensures.others (name k e) (apart k e ending.Config not_from) (apart k e ending.Gone not_to)) c.in_ok-lose_name.ensures.there c.in_ok-lose_name.ensures.left in
    let t1 = thin_from F M k is_rest s0 s1 _ (after_gone h) p1.after (stayed F M k s1 (after_gone h) is c.in_ok-lose_name.ensures.stays) in
    let s2 = c.remove.new.self in
    let t2 = removed F M k is_rest (after_gone h) s0 s1 s2 ending.Data refl t1 c.remove.ensures.crash in
    let p2 = goes_on M L s0 s1 s2 P p1 c.remove.ensures.time (λ d left. implied F M k s0 _ _ (removing_is h tidy) d (t2 d left)) in
    let s3 = c.remove-in-Ok.new.self in
    see_nothing h tidy (λ e. F s1 (name k e)) (λ e. F s2 (name k e)) (λ e. F s3 (name k e)) is
    (λ e differ. c.remove.ensures.elsewhere (name k e) (apart k e ending.Data differ)) c.in-Ok.ensures.gone
    (λ e differ. c.remove-in-Ok.ensures.elsewhere (name k e) (apart k e ending.Gone differ)) c.in_ok-remove-in-Ok.ensures.gone

pub returns-in_err-sync_names-in-Err-clause-any_moment : goal.returns-in_err-sync_names-in-Err-clause-any_moment
returns-in_err-sync_names-in-Err-clause-any_moment g c =
    let F = g.D.Directory.files in
    let M = g.D.Directory.may_leave in
    let L = g.D.Directory.left_since in
    let k = c.args.key in
    let s0 = c.args.directory.now in
    let h = seen F s0 k in
    let tidy = c.requires.tidy in
    let P = Beside M s0 k (IsNoneOr (found h)) in
    let s1 = c.lose_name.new.directory in
    let p1 = c.lose_name.ensures.any_moment in
    let is : (e : Ending) → F s1 (name k e) ≡ synced (after_gone h e) = see_gone h (λ e. F s0 (name k e)) (λ e. F s1 (name k e)) c.requires.rests.seen
    (λ e not_from not_to. c.in_ok-lose_name.ensures.others (name k e) (apart k e ending.Config not_from) (apart k e ending.Gone not_to)) c.in_ok-lose_name.ensures.there c.in_ok-lose_name.ensures.left in
    let t1 = thin_from F M k is_rest s0 s1 _ (after_gone h) p1.after (stayed F M k s1 (after_gone h) is c.in_ok-lose_name.ensures.stays) in
    let s2 = c.remove.new.self in
    let t2 = removed F M k is_rest (after_gone h) s0 s1 s2 ending.Data refl t1 c.remove.ensures.crash in
    let p2 = goes_on M L s0 s1 s2 P p1 c.remove.ensures.time (λ d left. implied F M k s0 _ _ (removing_is h tidy) d (t2 d left)) in
    let s3 = c.sync_names.new.self in
    let p3 = goes_on M L s0 s2 s3 P p2 c.sync_names.ensures.time (λ d left. p2.after d (c.sync_names.ensures.crash d left)) in
    p3

pub returns-in_err-rename-in-Err-clause-any_moment : goal.returns-in_err-rename-in-Err-clause-any_moment
returns-in_err-rename-in-Err-clause-any_moment g c =
    let F = g.D.Directory.files in
    let M = g.D.Directory.may_leave in
    let L = g.D.Directory.left_since in
    let k = c.args.key in
    let s0 = c.args.directory.now in
    let h = seen F s0 k in
    let tidy = c.requires.tidy in
    let P = Beside M s0 k (IsNoneOr (found h)) in
    let s1 = c.lose_name.new.directory in
    let p1 = c.lose_name.ensures.any_moment in
    let is : (e : Ending) → F s1 (name k e) ≡ synced (after_gone h e) = see_gone h (λ e. F s0 (name k e)) (λ e. F s1 (name k e)) c.requires.rests.seen
    (λ e not_from not_to. c.in_ok-lose_name.ensures.others (name k e) (apart k e ending.Config not_from) (apart k e ending.Gone not_to)) c.in_ok-lose_name.ensures.there c.in_ok-lose_name.ensures.left in
    let t1 = thin_from F M k is_rest s0 s1 _ (after_gone h) p1.after (stayed F M k s1 (after_gone h) is c.in_ok-lose_name.ensures.stays) in
    let s2 = c.remove.new.self in
    let t2 = removed F M k is_rest (after_gone h) s0 s1 s2 ending.Data refl t1 c.remove.ensures.crash in
    let p2 = goes_on M L s0 s1 s2 P p1 c.remove.ensures.time (λ d left. implied F M k s0 _ _ (removing_is h tidy) d (t2 d left)) in
    let s3 = c.sync_names.new.self in
    let p3 = goes_on M L s0 s2 s3 P p2 c.sync_names.ensures.time (λ d left. p2.after d (c.sync_names.ensures.crash d left)) in
    let same : (e : Ending) → F s2 (name k e) ≡ synced (after_gone h e) = λ e. c.in-Err.ensures.err (name k e) ∙ is e in
    let rests = settled F M k s2 s3 (after_gone h) same c.sync_names.ensures.same c.in_ok-sync_names-in-Err.ensures.stays in
    let t3 = exact_from F M k s0 s3 _ (after_gone h) p3.after rests in
    let s4 = c.rename.new.self in
    goes_on M L s0 s3 s4 P p3 c.rename.ensures.time
    (giving_back F M k s0 s3 s4 (λ f. (e : Ending) → f e ≡ after_gone h e) t3 (λ f r. still h tidy f (is_back h tidy f r)) (λ f is. removing_is h tidy f (λ e. inl (is e))) c.rename.ensures.crash)

pub returns-in_ok-rename-in-Err-clause-any_moment : goal.returns-in_ok-rename-in-Err-clause-any_moment
returns-in_ok-rename-in-Err-clause-any_moment g c =
    let F = g.D.Directory.files in
    let M = g.D.Directory.may_leave in
    let L = g.D.Directory.left_since in
    let k = c.args.key in
    let s0 = c.args.directory.now in
    let h = seen F s0 k in
    let tidy = c.requires.tidy in
    let P = Beside M s0 k (IsNoneOr (found h)) in
    let s1 = c.lose_name.new.directory in
    let p1 = c.lose_name.ensures.any_moment in
    let is : (e : Ending) → F s1 (name k e) ≡ synced (after_gone h e) = see_gone h (λ e. F s0 (name k e)) (λ e. F s1 (name k e)) c.requires.rests.seen
    (λ e not_from not_to. c.in_ok-lose_name.ensures.others (name k e) (apart k e ending.Config not_from) (apart k e ending.Gone not_to)) c.in_ok-lose_name.ensures.there c.in_ok-lose_name.ensures.left in
    let t1 = thin_from F M k is_rest s0 s1 _ (after_gone h) p1.after (stayed F M k s1 (after_gone h) is c.in_ok-lose_name.ensures.stays) in
    let s2 = c.remove.new.self in
    let t2 = removed F M k is_rest (after_gone h) s0 s1 s2 ending.Data refl t1 c.remove.ensures.crash in
    let p2 = goes_on M L s0 s1 s2 P p1 c.remove.ensures.time (λ d left. implied F M k s0 _ _ (removing_is h tidy) d (t2 d left)) in
    let s3 = c.sync_names.new.self in
    let p3 = goes_on M L s0 s2 s3 P p2 c.sync_names.ensures.time (λ d left. p2.after d (c.sync_names.ensures.crash d left)) in
    let same : (e : Ending) → F s2 (name k e) ≡ synced (after_gone h e) = λ e. c.in-Err.ensures.err (name k e) ∙ is e in
    let rests = settled F M k s2 s3 (after_gone h) same c.sync_names.ensures.same c.in_ok-sync_names-in-Err.ensures.stays in
    let t3 = exact_from F M k s0 s3 _ (after_gone h) p3.after rests in
    let s4 = c.rename.new.self in
    goes_on M L s0 s3 s4 P p3 c.rename.ensures.time
    (giving_back F M k s0 s3 s4 (λ f. (e : Ending) → f e ≡ after_gone h e) t3 (λ f r. still h tidy f (is_back h tidy f r)) (λ f is. removing_is h tidy f (λ e. inl (is e))) c.rename.ensures.crash)
