use Rattle.std.proofs.Common.{◌≡◌, true, ℕ, List, ◌∷◌, rules}
use Rattle.dfr_folder.specs.declared.name.Key.{Key}
use Rattle.dfr_folder.specs.Pairs.{AllWhole}
use Rattle.dfr_folder.proofs.Moments.{joined, weaker}
use Rattle.dfr_folder.proofs.Among.{among_more}
use Rattle.dfr_folder.proofs.checked.put_new.Goals as goal

pub returns-in_err-claim-clause-whole : goal.returns-in_err-claim-clause-whole
returns-in_err-claim-clause-whole g c =
    let M = g.D.Directory.may_leave in
    let L = g.D.Directory.left_since in
    let s0 = c.args.directory.now in
    let r : Key × List ℕ × List ℕ = (c.args.key, c.args.cfg.now, c.args.dat.now) in
    let s1 = c.claim.new.directory in
    λ records all. weaker M L s0 s1 (M s0) (AllWhole (r ∷ records)) c.claim.ensures.any_moment (λ d l. among_more r records d (all d l))

pub returns-then-not-branch-clause-whole : goal.returns-then-not-branch-clause-whole
returns-then-not-branch-clause-whole g c =
    let M = g.D.Directory.may_leave in
    let L = g.D.Directory.left_since in
    let s0 = c.args.directory.now in
    let r : Key × List ℕ × List ℕ = (c.args.key, c.args.cfg.now, c.args.dat.now) in
    let s1 = c.claim.new.directory in
    λ records all. weaker M L s0 s1 (M s0) (AllWhole (r ∷ records)) c.claim.ensures.any_moment (λ d l. among_more r records d (all d l))

pub put-requires : goal.put-requires
put-requires g c =
    let yes : c.in_ok-claim.field-0 ≡ true = search rules in record { free = c.in_ok-claim.ensures.free yes }

pub returns-in_err-put-clause-whole : goal.returns-in_err-put-clause-whole
returns-in_err-put-clause-whole g c =
    let M = g.D.Directory.may_leave in
    let L = g.D.Directory.left_since in
    let s0 = c.args.directory.now in
    let r : Key × List ℕ × List ℕ = (c.args.key, c.args.cfg.now, c.args.dat.now) in
    let s1 = c.claim.new.directory in
    let s2 = c.put.new.directory in
    λ records all. joined M L s0 s1 s2 (AllWhole (r ∷ records)) (AllWhole (r ∷ records))
    (weaker M L s0 s1 (M s0) (AllWhole (r ∷ records)) c.claim.ensures.any_moment (λ d l. among_more r records d (all d l)))
    (c.put.ensures.whole records (λ d l. all d (c.claim.ensures.any_moment.after d l))) (λ d w. w)

pub returns-clause-whole : goal.returns-clause-whole
returns-clause-whole g c =
    let M = g.D.Directory.may_leave in
    let L = g.D.Directory.left_since in
    let s0 = c.args.directory.now in
    let r : Key × List ℕ × List ℕ = (c.args.key, c.args.cfg.now, c.args.dat.now) in
    let s1 = c.claim.new.directory in
    let s2 = c.put.new.directory in
    λ records all. joined M L s0 s1 s2 (AllWhole (r ∷ records)) (AllWhole (r ∷ records))
    (weaker M L s0 s1 (M s0) (AllWhole (r ∷ records)) c.claim.ensures.any_moment (λ d l. among_more r records d (all d l)))
    (c.put.ensures.whole records (λ d l. all d (c.claim.ensures.any_moment.after d l))) (λ d w. w)
