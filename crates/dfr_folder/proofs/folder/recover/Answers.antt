use Rattle.std.proofs.Common.{◌⊎◌, inl, inr}
use Rattle.dfr_folder.specs.declared.name.Key.{Key}
use Rattle.dfr_folder.specs.Directory.{Content}
use Rattle.dfr_folder.specs.Pairs.{seen, AllMend, AllWhole, IsAtRest}
use Rattle.dfr_folder.proofs.Moments.{begins, joined}
use Rattle.dfr_folder.proofs.Rest.{at_rest, settled}
use Rattle.dfr_folder.proofs.Everyone.{all_from, clean_from}
use Rattle.dfr_folder.proofs.Whole.{whole_mended}
use Rattle.dfr_folder.proofs.folder.recover.Goals as goal

pub tidy_all-requires : goal.tidy_all-requires
tidy_all-requires g c =
    let F = g.D.Directory.files in
    let M = g.D.Directory.may_leave in
    let s0 = c.args.directory.now in
    let s1 = c.sync_names.new.self in
    let rests : (key : Key) → IsAtRest F M s1 key = λ key. at_rest F M key s1 (seen F s0 key)
    (settled F M key s0 s1 (seen F s0 key) (c.requires.synced key) c.sync_names.ensures.same c.in_ok-sync_names.ensures.stays) in
    record { rests = rests }

pub returns-in_err-sync_names-clause-any_moment : goal.returns-in_err-sync_names-clause-any_moment
returns-in_err-sync_names-clause-any_moment g c =
    let F = g.D.Directory.files in
    let M = g.D.Directory.may_leave in
    let s0 = c.args.directory.now in
    let s1 = c.sync_names.new.self in
    let L = g.D.Directory.left_since in
    let P : Content → Type 0 = λ d. M s0 d ⊎ AllMend F s0 d in
    let p1 = begins M L s0 s1 P c.sync_names.ensures.time (λ d left. inl (c.sync_names.ensures.crash d left)) in
    p1

pub returns-in_err-sync_names-clause-whole : goal.returns-in_err-sync_names-clause-whole
returns-in_err-sync_names-clause-whole g c =
    let F = g.D.Directory.files in
    let M = g.D.Directory.may_leave in
    let s0 = c.args.directory.now in
    let s1 = c.sync_names.new.self in
    let L = g.D.Directory.left_since in
    λ records all.
    let w1 = begins M L s0 s1 (AllWhole records) c.sync_names.ensures.time (λ d left. all d (c.sync_names.ensures.crash d left)) in
    w1

pub returns-in_err-tidy_all-clause-any_moment : goal.returns-in_err-tidy_all-clause-any_moment
returns-in_err-tidy_all-clause-any_moment g c =
    let F = g.D.Directory.files in
    let M = g.D.Directory.may_leave in
    let s0 = c.args.directory.now in
    let s1 = c.sync_names.new.self in
    let L = g.D.Directory.left_since in
    let P : Content → Type 0 = λ d. M s0 d ⊎ AllMend F s0 d in
    let p1 = begins M L s0 s1 P c.sync_names.ensures.time (λ d left. inl (c.sync_names.ensures.crash d left)) in
    joined M L s0 s1 c.tidy_all.new.directory P _ p1 c.tidy_all.ensures.any_moment (λ d mends. inr (all_from F s0 s1 c.sync_names.ensures.same d mends))

pub returns-in_err-tidy_all-clause-whole : goal.returns-in_err-tidy_all-clause-whole
returns-in_err-tidy_all-clause-whole g c =
    let F = g.D.Directory.files in
    let M = g.D.Directory.may_leave in
    let s0 = c.args.directory.now in
    let s1 = c.sync_names.new.self in
    let L = g.D.Directory.left_since in
    λ records all.
    let w1 = begins M L s0 s1 (AllWhole records) c.sync_names.ensures.time (λ d left. all d (c.sync_names.ensures.crash d left)) in
    joined M L s0 s1 c.tidy_all.new.directory (AllWhole records) _ w1 c.tidy_all.ensures.from (whole_mended F M s1 records w1.after)

pub returns-clause-any_moment : goal.returns-clause-any_moment
returns-clause-any_moment g c =
    let F = g.D.Directory.files in
    let M = g.D.Directory.may_leave in
    let s0 = c.args.directory.now in
    let s1 = c.sync_names.new.self in
    let L = g.D.Directory.left_since in
    let P : Content → Type 0 = λ d. M s0 d ⊎ AllMend F s0 d in
    let p1 = begins M L s0 s1 P c.sync_names.ensures.time (λ d left. inl (c.sync_names.ensures.crash d left)) in
    joined M L s0 s1 c.tidy_all.new.directory P _ p1 c.tidy_all.ensures.any_moment (λ d mends. inr (all_from F s0 s1 c.sync_names.ensures.same d mends))

pub returns-clause-whole : goal.returns-clause-whole
returns-clause-whole g c =
    let F = g.D.Directory.files in
    let M = g.D.Directory.may_leave in
    let s0 = c.args.directory.now in
    let s1 = c.sync_names.new.self in
    let L = g.D.Directory.left_since in
    λ records all.
    let w1 = begins M L s0 s1 (AllWhole records) c.sync_names.ensures.time (λ d left. all d (c.sync_names.ensures.crash d left)) in
    joined M L s0 s1 c.tidy_all.new.directory (AllWhole records) _ w1 c.tidy_all.ensures.from (whole_mended F M s1 records w1.after)

pub returns-clause-clean : goal.returns-clause-clean
returns-clause-clean g c =
    let F = g.D.Directory.files in
    let s0 = c.args.directory.now in
    let s1 = c.sync_names.new.self in
    clean_from F s0 s1 c.tidy_all.new.directory c.sync_names.ensures.same c.in_ok-tidy_all.ensures.clean
