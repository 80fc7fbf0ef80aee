use Rattle.std.proofs.Common.{◌≡◌, ◌<◌, List, [], ◌∷◌, ◌++◌, length, sym, ◌∙◌, subst, inl, arith, append_assoc}
use Rattle.dfr_folder.specs.declared.name.Key.{Key}
use Rattle.dfr_folder.specs.Pairs.{GivesUp, AllWhole}
use Rattle.dfr_folder.proofs.Moments.{joined}
use Rattle.dfr_folder.proofs.Oldest.{is_first}
use Rattle.dfr_folder.proofs.Keeping.{Progress, begun, none_given_up, is_in, is_tidy, giving_up, given_up}
use Rattle.dfr_folder.proofs.folder.keep.Goals as goal

pub loop-keys-init : goal.loop-keys-init
loop-keys-init g c =
    let F = g.D.Directory.files in
    let M = g.D.Directory.may_leave in
    let s0 = c.args.directory.now in
    let ks = c.args.keys.now.items in
    record {
      moments = record { passing = λ start d left. inl left; after = none_given_up F M s0 ks c.requires.rests c.requires.tidy };
      whole = λ records all. record { passing = λ start d left. inl left; after = all };
      progress = begun F M s0 ks c.requires.rests;
      time = omega arith;
    }

pub give_up-requires-clause-tidy : goal.give_up-requires-clause-tidy
give_up-requires-clause-tidy g c =
    let F = g.D.Directory.files in
    let M = g.D.Directory.may_leave in
    let s0 = c.args.directory.now in
    let ks = c.args.keys.now.items in
    let i = c.loop-keys.invariant in
    let mid = c.loop-keys.directory in
    let key = c.remove-key.result in
    let rest = c.remove-key.new.self.items in
    let some : 0 < length c.loop-keys.keys.items = omega (arith, c.loop-keys-test.true, c.len.ensures, c.loop-keys.keys.ok.0) in
    let first : c.loop-keys.keys.items ≡ key ∷ rest = is_first c.loop-keys.keys.items rest key some c.remove-key.ensures.value c.remove-key.ensures.items in
    let p = subst (λ (xs : List Key). Progress F M s0 ks mid xs) first i.progress in
    is_tidy F M s0 ks mid key rest c.requires.differ p (c.requires.tidy key (is_in F M s0 ks mid key rest c.requires.differ p))

pub loop-keys-preserved : goal.loop-keys-preserved
loop-keys-preserved g c =
    let F = g.D.Directory.files in
    let M = g.D.Directory.may_leave in
    let s0 = c.args.directory.now in
    let ks = c.args.keys.now.items in
    let L = g.D.Directory.left_since in
    let i = c.loop-keys.invariant in
    let mid = c.loop-keys.directory in
    let key = c.remove-key.result in
    let rest = c.remove-key.new.self.items in
    let some : 0 < length c.loop-keys.keys.items = omega (arith, c.loop-keys-test.true, c.len.ensures, c.loop-keys.keys.ok.0) in
    let first : c.loop-keys.keys.items ≡ key ∷ rest = is_first c.loop-keys.keys.items rest key some c.remove-key.ensures.value c.remove-key.ensures.items in
    let p = subst (λ (xs : List Key). Progress F M s0 ks mid xs) first i.progress in
    let new = c.give_up.new.directory in
    record {
      moments = joined M L s0 mid new (GivesUp F M s0 ks) _ i.moments c.give_up.ensures.any_moment (giving_up F M s0 ks mid key rest c.requires.differ p);
      whole = λ records all. joined M L s0 mid new (AllWhole records) (AllWhole records) (i.whole records all) (c.give_up.ensures.whole records (i.whole records all).after) (λ d x. x);
      progress = given_up F M s0 ks mid key rest c.requires.differ p new c.give_up.ensures.any_moment.after c.in_ok-give_up.ensures.gone c.give_up.ensures.elsewhere;
      time = omega (arith, i.time, c.give_up.ensures.cause.later);
    }

pub returns-in_err-give_up-clause-whole : goal.returns-in_err-give_up-clause-whole
returns-in_err-give_up-clause-whole g c =
    let F = g.D.Directory.files in
    let M = g.D.Directory.may_leave in
    let s0 = c.args.directory.now in
    let ks = c.args.keys.now.items in
    let L = g.D.Directory.left_since in
    let i = c.loop-keys.invariant in
    let mid = c.loop-keys.directory in
    let new = c.give_up.new.directory in
    λ records all. joined M L s0 mid new (AllWhole records) (AllWhole records) (i.whole records all) (c.give_up.ensures.whole records (i.whole records all).after) (λ d x. x)

pub returns-in_err-give_up-clause-any_moment : goal.returns-in_err-give_up-clause-any_moment
returns-in_err-give_up-clause-any_moment g c =
    let F = g.D.Directory.files in
    let M = g.D.Directory.may_leave in
    let s0 = c.args.directory.now in
    let ks = c.args.keys.now.items in
    let L = g.D.Directory.left_since in
    let i = c.loop-keys.invariant in
    let mid = c.loop-keys.directory in
    let key = c.remove-key.result in
    let rest = c.remove-key.new.self.items in
    let some : 0 < length c.loop-keys.keys.items = omega (arith, c.loop-keys-test.true, c.len.ensures, c.loop-keys.keys.ok.0) in
    let first : c.loop-keys.keys.items ≡ key ∷ rest = is_first c.loop-keys.keys.items rest key some c.remove-key.ensures.value c.remove-key.ensures.items in
    let p = subst (λ (xs : List Key). Progress F M s0 ks mid xs) first i.progress in
    let new = c.give_up.new.directory in
    joined M L s0 mid new (GivesUp F M s0 ks) _ i.moments c.give_up.ensures.any_moment (giving_up F M s0 ks mid key rest c.requires.differ p)

pub returns-in_err-give_up-clause-oldest : goal.returns-in_err-give_up-clause-oldest
returns-in_err-give_up-clause-oldest g c =
    let F = g.D.Directory.files in
    let M = g.D.Directory.may_leave in
    let s0 = c.args.directory.now in
    let ks = c.args.keys.now.items in
    let i = c.loop-keys.invariant in
    let mid = c.loop-keys.directory in
    let key = c.remove-key.result in
    let rest = c.remove-key.new.self.items in
    let some : 0 < length c.loop-keys.keys.items = omega (arith, c.loop-keys-test.true, c.len.ensures, c.loop-keys.keys.ok.0) in
    let first : c.loop-keys.keys.items ≡ key ∷ rest = is_first c.loop-keys.keys.items rest key some c.remove-key.ensures.value c.remove-key.ensures.items in
    let p = subst (λ (xs : List Key). Progress F M s0 ks mid xs) first i.progress in
    (p.front ++ key ∷ [], p.split ∙ sym (append_assoc p.front (key ∷ []) rest))
