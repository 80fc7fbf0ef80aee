use Rattle.std.proofs.Common.{◌≡◌, true, false, refl, ◌∙◌, sym, rules}
use Rattle.dfr_folder.specs.declared.name.Ending.TheVariants as ending
use Rattle.dfr_folder.specs.Pairs.{name, seen, AllWhole}
use Rattle.dfr_folder.proofs.Looking.{none_of_false, stays_none}
use Rattle.dfr_folder.proofs.Moments.{begins, goes_on, joined}
use Rattle.dfr_folder.proofs.Rest.{at_rest, settled}
use Rattle.dfr_folder.proofs.Dropping.{tidying_whole}
use Rattle.dfr_folder.proofs.opened.mend.Goals as goal

pub returns-in_err-are_synced-clause-whole : goal.returns-in_err-are_synced-clause-whole
returns-in_err-are_synced-clause-whole g c =
    let F = g.D.Directory.files in
    let M = g.D.Directory.may_leave in
    let L = g.D.Directory.left_since in
    let k = c.args.key in
    let s0 = c.args.directory.now in
    let s1 = c.are_synced.new.self in
    λ records all.
    let w1 = begins M L s0 s1 (AllWhole records) c.are_synced.ensures.time (λ d left. all d (c.are_synced.ensures.crash d left)) in
    w1

pub returns-in_err-there-clause-whole : goal.returns-in_err-there-clause-whole
returns-in_err-there-clause-whole g c =
    let F = g.D.Directory.files in
    let M = g.D.Directory.may_leave in
    let L = g.D.Directory.left_since in
    let k = c.args.key in
    let s0 = c.args.directory.now in
    let s1 = c.are_synced.new.self in
    λ records all.
    let w1 = begins M L s0 s1 (AllWhole records) c.are_synced.ensures.time (λ d left. all d (c.are_synced.ensures.crash d left)) in
    let sl = c.look.new.self in
    let wl = goes_on M L s0 s1 sl (AllWhole records) w1 c.look.ensures.time (λ d left. w1.after d (c.look.ensures.crash d left)) in
    wl

pub returns-then-there-clause-whole : goal.returns-then-there-clause-whole
returns-then-there-clause-whole g c =
    let F = g.D.Directory.files in
    let M = g.D.Directory.may_leave in
    let L = g.D.Directory.left_since in
    let k = c.args.key in
    let s0 = c.args.directory.now in
    let s1 = c.are_synced.new.self in
    λ records all.
    let w1 = begins M L s0 s1 (AllWhole records) c.are_synced.ensures.time (λ d left. all d (c.are_synced.ensures.crash d left)) in
    let sl = c.look.new.self in
    let wl = goes_on M L s0 s1 sl (AllWhole records) w1 c.look.ensures.time (λ d left. w1.after d (c.look.ensures.crash d left)) in
    wl

pub returns-in_err-drop_parts-clause-whole : goal.returns-in_err-drop_parts-clause-whole
returns-in_err-drop_parts-clause-whole g c =
    let F = g.D.Directory.files in
    let M = g.D.Directory.may_leave in
    let L = g.D.Directory.left_since in
    let k = c.args.key in
    let s0 = c.args.directory.now in
    let s1 = c.are_synced.new.self in
    λ records all.
    let w1 = begins M L s0 s1 (AllWhole records) c.are_synced.ensures.time (λ d left. all d (c.are_synced.ensures.crash d left)) in
    let sl = c.look.new.self in
    let wl = goes_on M L s0 s1 sl (AllWhole records) w1 c.look.ensures.time (λ d left. w1.after d (c.look.ensures.crash d left)) in
    joined M L s0 sl c.drop_parts.new.directory (AllWhole records) (AllWhole records) wl (c.drop_parts.ensures.whole records wl.after) (λ d w. w)

pub returns-then-not-branch-clause-whole : goal.returns-then-not-branch-clause-whole
returns-then-not-branch-clause-whole g c =
    let F = g.D.Directory.files in
    let M = g.D.Directory.may_leave in
    let L = g.D.Directory.left_since in
    let k = c.args.key in
    let s0 = c.args.directory.now in
    let s1 = c.are_synced.new.self in
    λ records all.
    let w1 = begins M L s0 s1 (AllWhole records) c.are_synced.ensures.time (λ d left. all d (c.are_synced.ensures.crash d left)) in
    let sl = c.look.new.self in
    let wl = goes_on M L s0 s1 sl (AllWhole records) w1 c.look.ensures.time (λ d left. w1.after d (c.look.ensures.crash d left)) in
    joined M L s0 sl c.drop_parts.new.directory (AllWhole records) (AllWhole records) wl (c.drop_parts.ensures.whole records wl.after) (λ d w. w)

pub returns-in_err-sync_names-clause-whole : goal.returns-in_err-sync_names-clause-whole
returns-in_err-sync_names-clause-whole g c =
    let F = g.D.Directory.files in
    let M = g.D.Directory.may_leave in
    let L = g.D.Directory.left_since in
    let k = c.args.key in
    let s0 = c.args.directory.now in
    let s1 = c.are_synced.new.self in
    let s2 = c.sync_names.new.self in
    λ records all.
    let w1 = begins M L s0 s1 (AllWhole records) c.are_synced.ensures.time (λ d left. all d (c.are_synced.ensures.crash d left)) in
    let w2 = goes_on M L s0 s1 s2 (AllWhole records) w1 c.sync_names.ensures.time (λ d left. w1.after d (c.sync_names.ensures.crash d left)) in
    w2

pub tidy-requires : goal.tidy-requires
tidy-requires g c =
    let F = g.D.Directory.files in
    let M = g.D.Directory.may_leave in
    let L = g.D.Directory.left_since in
    let k = c.args.key in
    let s0 = c.args.directory.now in
    let s1 = c.are_synced.new.self in
    let s2 = c.sync_names.new.self in
    let are : c.in_ok-are_synced.field-0 ≡ true = search rules in
    let on_disk = c.in_ok-are_synced.ensures.synced.0 are in
    let rests = at_rest F M k s2 (seen F s0 k) (settled F M k s1 s2 (seen F s0 k) (λ e. c.are_synced.ensures.same (name k e) ∙ on_disk e) c.sync_names.ensures.same c.in_ok-sync_names.ensures.stays) in
    record { rests = rests }

pub returns-in_err-tidy-clause-whole : goal.returns-in_err-tidy-clause-whole
returns-in_err-tidy-clause-whole g c =
    let F = g.D.Directory.files in
    let M = g.D.Directory.may_leave in
    let L = g.D.Directory.left_since in
    let k = c.args.key in
    let s0 = c.args.directory.now in
    let s1 = c.are_synced.new.self in
    let s2 = c.sync_names.new.self in
    let are : c.in_ok-are_synced.field-0 ≡ true = search rules in
    let on_disk = c.in_ok-are_synced.ensures.synced.0 are in
    let rests = at_rest F M k s2 (seen F s0 k) (settled F M k s1 s2 (seen F s0 k) (λ e. c.are_synced.ensures.same (name k e) ∙ on_disk e) c.sync_names.ensures.same c.in_ok-sync_names.ensures.stays) in
    λ records all.
    let w1 = begins M L s0 s1 (AllWhole records) c.are_synced.ensures.time (λ d left. all d (c.are_synced.ensures.crash d left)) in
    let w2 = goes_on M L s0 s1 s2 (AllWhole records) w1 c.sync_names.ensures.time (λ d left. w1.after d (c.sync_names.ensures.crash d left)) in
    let s3 = c.tidy.new.directory in
    let w3 = joined M L s0 s2 s3 (AllWhole records) _ w2 c.tidy.ensures.any_moment (tidying_whole F M k records s2 rests w2.after) in
    w3

pub returns-in_err-names-clause-whole : goal.returns-in_err-names-clause-whole
returns-in_err-names-clause-whole g c =
    let F = g.D.Directory.files in
    let M = g.D.Directory.may_leave in
    let L = g.D.Directory.left_since in
    let k = c.args.key in
    let s0 = c.args.directory.now in
    let s1 = c.are_synced.new.self in
    let s2 = c.sync_names.new.self in
    let are : c.in_ok-are_synced.field-0 ≡ true = search rules in
    let on_disk = c.in_ok-are_synced.ensures.synced.0 are in
    let rests = at_rest F M k s2 (seen F s0 k) (settled F M k s1 s2 (seen F s0 k) (λ e. c.are_synced.ensures.same (name k e) ∙ on_disk e) c.sync_names.ensures.same c.in_ok-sync_names.ensures.stays) in
    λ records all.
    let w1 = begins M L s0 s1 (AllWhole records) c.are_synced.ensures.time (λ d left. all d (c.are_synced.ensures.crash d left)) in
    let w2 = goes_on M L s0 s1 s2 (AllWhole records) w1 c.sync_names.ensures.time (λ d left. w1.after d (c.sync_names.ensures.crash d left)) in
    let s3 = c.tidy.new.directory in
    let w3 = joined M L s0 s2 s3 (AllWhole records) _ w2 c.tidy.ensures.any_moment (tidying_whole F M k records s2 rests w2.after) in
    goes_on M L s0 s3 c.look-2.new.self (AllWhole records) w3 c.look-2.ensures.time (λ d left. w3.after d (c.look-2.ensures.crash d left))

pub returns-clause-whole : goal.returns-clause-whole
returns-clause-whole g c =
    let F = g.D.Directory.files in
    let M = g.D.Directory.may_leave in
    let L = g.D.Directory.left_since in
    let k = c.args.key in
    let s0 = c.args.directory.now in
    let s1 = c.are_synced.new.self in
    let s2 = c.sync_names.new.self in
    let are : c.in_ok-are_synced.field-0 ≡ true = search rules in
    let on_disk = c.in_ok-are_synced.ensures.synced.0 are in
    let rests = at_rest F M k s2 (seen F s0 k) (settled F M k s1 s2 (seen F s0 k) (λ e. c.are_synced.ensures.same (name k e) ∙ on_disk e) c.sync_names.ensures.same c.in_ok-sync_names.ensures.stays) in
    λ records all.
    let w1 = begins M L s0 s1 (AllWhole records) c.are_synced.ensures.time (λ d left. all d (c.are_synced.ensures.crash d left)) in
    let w2 = goes_on M L s0 s1 s2 (AllWhole records) w1 c.sync_names.ensures.time (λ d left. w1.after d (c.sync_names.ensures.crash d left)) in
    let s3 = c.tidy.new.directory in
    let w3 = joined M L s0 s2 s3 (AllWhole records) _ w2 c.tidy.ensures.any_moment (tidying_whole F M k records s2 rests w2.after) in
    goes_on M L s0 s3 c.look-2.new.self (AllWhole records) w3 c.look-2.ensures.time (λ d left. w3.after d (c.look-2.ensures.crash d left))

pub returns-then-names-clause-whole : goal.returns-then-names-clause-whole
returns-then-names-clause-whole g c =
    let F = g.D.Directory.files in
    let M = g.D.Directory.may_leave in
    let L = g.D.Directory.left_since in
    let k = c.args.key in
    let s0 = c.args.directory.now in
    let s1 = c.are_synced.new.self in
    let s2 = c.sync_names.new.self in
    let are : c.in_ok-are_synced.field-0 ≡ true = search rules in
    let on_disk = c.in_ok-are_synced.ensures.synced.0 are in
    let rests = at_rest F M k s2 (seen F s0 k) (settled F M k s1 s2 (seen F s0 k) (λ e. c.are_synced.ensures.same (name k e) ∙ on_disk e) c.sync_names.ensures.same c.in_ok-sync_names.ensures.stays) in
    λ records all.
    let w1 = begins M L s0 s1 (AllWhole records) c.are_synced.ensures.time (λ d left. all d (c.are_synced.ensures.crash d left)) in
    let w2 = goes_on M L s0 s1 s2 (AllWhole records) w1 c.sync_names.ensures.time (λ d left. w1.after d (c.sync_names.ensures.crash d left)) in
    let s3 = c.tidy.new.directory in
    let w3 = joined M L s0 s2 s3 (AllWhole records) _ w2 c.tidy.ensures.any_moment (tidying_whole F M k records s2 rests w2.after) in
    goes_on M L s0 s3 c.look-2.new.self (AllWhole records) w3 c.look-2.ensures.time (λ d left. w3.after d (c.look-2.ensures.crash d left))

pub returns-then-not-branch-clause-none : goal.returns-then-not-branch-clause-none
returns-then-not-branch-clause-none g c =
    let F = g.D.Directory.files in
    let M = g.D.Directory.may_leave in
    let k = c.args.key in
    let no_cfg : c.in_ok-there.there.cfg ≡ false = search rules in
    let none = none_of_false _ (sym c.in_ok-there.ensures.names.cfg ∙ no_cfg) in
    λ same d left.
    let new = c.drop_parts.new.directory in
    let gone = stays_none (F new (name k ending.Config)) (d (name k ending.Config)) (c.drop_parts.ensures.config ∙ c.look.ensures.same (name k ending.Config) ∙ none) (c.in_ok-drop_parts.ensures.settled d left (name k ending.Config)) in
    rw gone refl
