use Rattle.std.proofs.Common.{◌≡◌, true, ◌∙◌, sym, rules}
use Rattle.dfr_folder.specs.Pairs.{AllWhole, name, seen}
use Rattle.dfr_folder.proofs.Moments.{joined, weaker}
use Rattle.dfr_folder.proofs.Rest.{at_rest, settled}
use Rattle.dfr_folder.proofs.checked.discard_next.Goals as goal

pub returns-in_err-give_up-clause-whole : goal.returns-in_err-give_up-clause-whole
returns-in_err-give_up-clause-whole g c =
    let M = g.D.Directory.may_leave in
    let L = g.D.Directory.left_since in
    let s0 = c.args.directory.now in
    let s1 = c.is_whole.new.directory in
    let s2 = c.give_up.new.directory in
    λ records all. joined M L s0 s1 s2 (AllWhole records) (AllWhole records) (weaker M L s0 s1 (M s0) (AllWhole records) c.is_whole.ensures.any_moment all)
    (c.give_up.ensures.whole records (λ d l. all d (c.is_whole.ensures.any_moment.after d l))) (λ d w. w)

pub returns-clause-whole : goal.returns-clause-whole
returns-clause-whole g c =
    let M = g.D.Directory.may_leave in
    let L = g.D.Directory.left_since in
    let s0 = c.args.directory.now in
    let s1 = c.is_whole.new.directory in
    let s2 = c.give_up.new.directory in
    λ records all. joined M L s0 s1 s2 (AllWhole records) (AllWhole records) (weaker M L s0 s1 (M s0) (AllWhole records) c.is_whole.ensures.any_moment all)
    (c.give_up.ensures.whole records (λ d l. all d (c.is_whole.ensures.any_moment.after d l))) (λ d w. w)

pub give_up-requires-clause-rests : goal.give_up-requires-clause-rests
give_up-requires-clause-rests g c =
    let F = g.D.Directory.files in
    let M = g.D.Directory.may_leave in
    let key = c.args.key in
    let s0 = c.args.directory.now in
    let s1 = c.is_whole.new.directory in
    let are : c.in_ok-is_whole.field-0 ≡ true = search rules in
    let on_disk = c.in_ok-is_whole.ensures.synced are in
    at_rest F M key s1 (seen F s1 key) (settled F M key s0 s1 (seen F s1 key) (λ e. sym (c.is_whole.ensures.same (name key e)) ∙ on_disk e) c.is_whole.ensures.same
    (λ d left n. c.requires.settled d (c.is_whole.ensures.any_moment.after d left) n))
