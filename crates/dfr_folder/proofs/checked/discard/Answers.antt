use Rattle.dfr_folder.specs.Pairs.{AllWhole}
use Rattle.dfr_folder.proofs.Moments.{joined, weaker}
use Rattle.dfr_folder.proofs.checked.discard.Goals as goal

pub returns-in_err-give_up-clause-whole : goal.returns-in_err-give_up-clause-whole
returns-in_err-give_up-clause-whole g c =
    let M = g.D.Directory.may_leave in
    let L = g.D.Directory.left_since in
    let s0 = c.args.directory.now in
    let s1 = c.is_resting.new.directory in
    let s2 = c.give_up.new.directory in
    λ records all. joined M L s0 s1 s2 (AllWhole records) (AllWhole records) (weaker M L s0 s1 (M s0) (AllWhole records) c.is_resting.ensures.any_moment all)
    (c.give_up.ensures.whole records (λ d l. all d (c.is_resting.ensures.any_moment.after d l))) (λ d w. w)

pub returns-clause-whole : goal.returns-clause-whole
returns-clause-whole g c =
    let M = g.D.Directory.may_leave in
    let L = g.D.Directory.left_since in
    let s0 = c.args.directory.now in
    let s1 = c.is_resting.new.directory in
    let s2 = c.give_up.new.directory in
    λ records all. joined M L s0 s1 s2 (AllWhole records) (AllWhole records) (weaker M L s0 s1 (M s0) (AllWhole records) c.is_resting.ensures.any_moment all)
    (c.give_up.ensures.whole records (λ d l. all d (c.is_resting.ensures.any_moment.after d l))) (λ d w. w)
