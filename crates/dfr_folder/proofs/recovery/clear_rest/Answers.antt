use Rattle.std.proofs.Common.{◌≡◌}
use Rattle.dfr_folder.specs.declared.name.Ending.{Ending}
use Rattle.dfr_folder.specs.declared.name.Ending.TheVariants as ending
use Rattle.dfr_folder.specs.Pairs.{name, synced, seen}
use Rattle.dfr_folder.proofs.Beside.{apart}
use Rattle.dfr_folder.proofs.Thinned.{is_gone, is_rest, without}
use Rattle.dfr_folder.proofs.Rest.{see_no_gone, see_no_rest, at_rest, settled, rests_on}
use Rattle.dfr_folder.proofs.recovery.clear_rest.Goals as goal

pub returns-then-there-clause-rests : goal.returns-then-there-clause-rests
returns-then-there-clause-rests g c =
    let F = g.D.Directory.files in
    let M = g.D.Directory.may_leave in
    let k = c.args.key in
    let s0 = c.args.directory.now in
    let h = seen F s0 k in
    let s1 = c.look.new.self in
    let r1 = rests_on F M k s0 s1 c.requires.rests c.look.ensures.same c.look.ensures.crash in
    let s2 = c.remove.new.self in
    let s3 = c.sync_names.new.self in
    let is : (e : Ending) → F s2 (name k e) ≡ synced (without is_gone h e) = see_no_gone h (λ e. F s1 (name k e)) (λ e. F s2 (name k e)) r1.seen
    (λ e differ. c.remove.ensures.elsewhere (name k e) (apart k e ending.Gone differ)) c.in_ok-remove.ensures.gone in
    at_rest F M k s3 (without is_gone h) (settled F M k s2 s3 (without is_gone h) is c.sync_names.ensures.same c.in_ok-sync_names.ensures.stays)

pub returns-clause-rests : goal.returns-clause-rests
returns-clause-rests g c =
    let F = g.D.Directory.files in
    let M = g.D.Directory.may_leave in
    let k = c.args.key in
    let s0 = c.args.directory.now in
    let h = seen F s0 k in
    let s1 = c.look.new.self in
    let r1 = rests_on F M k s0 s1 c.requires.rests c.look.ensures.same c.look.ensures.crash in
    let s2 = c.remove-2.new.self in
    let s3 = c.remove-3.new.self in
    let s4 = c.sync_names-2.new.self in
    let is : (e : Ending) → F s3 (name k e) ≡ synced (without is_rest h e) = see_no_rest h (λ e. F s1 (name k e)) (λ e. F s2 (name k e)) (λ e. F s3 (name k e)) r1.seen
    (λ e differ. c.remove-2.ensures.elsewhere (name k e) (apart k e ending.Data differ)) c.in_ok-remove-2.ensures.gone
    (λ e differ. c.remove-3.ensures.elsewhere (name k e) (apart k e ending.Gone differ)) c.in_ok-remove-3.ensures.gone in
    at_rest F M k s4 (without is_rest h) (settled F M k s3 s4 (without is_rest h) is c.sync_names-2.ensures.same c.in_ok-sync_names-2.ensures.stays)
