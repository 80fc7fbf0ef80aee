use Rattle.std.proofs.Common.{ℕ, List, ◌∷◌}
use Rattle.dfr_folder.specs.declared.name.Key.{Key}
use Rattle.dfr_folder.specs.Pairs.{AllWhole}
use Rattle.dfr_folder.proofs.Moments.{joined}
use Rattle.dfr_folder.proofs.opened.put_for.Goals as goal

pub returns-in-Ok-clause-whole : goal.returns-in-Ok-clause-whole
returns-in-Ok-clause-whole g c =
    let M = g.D.Directory.may_leave in
    let L = g.D.Directory.left_since in
    let s0 = c.args.directory.now in
    let s1 = c.put_or_mend.new.directory in
    let r : Key × List ℕ × List ℕ = (c.args.key, c.args.cfg.now, c.args.dat.now) in
    λ records all.
    let w1 = c.put_or_mend.ensures.whole records all in
    joined M L s0 s1 c.discard_next.new.directory (AllWhole (r ∷ records)) (AllWhole (r ∷ records)) w1 (c.discard_next.ensures.whole (r ∷ records) w1.after) (λ d w. w)

pub returns-in-Err-clause-whole : goal.returns-in-Err-clause-whole
returns-in-Err-clause-whole g c =
    let M = g.D.Directory.may_leave in
    let L = g.D.Directory.left_since in
    let s0 = c.args.directory.now in
    let s1 = c.put_or_mend.new.directory in
    let r : Key × List ℕ × List ℕ = (c.args.key, c.args.cfg.now, c.args.dat.now) in
    λ records all.
    let w1 = c.put_or_mend.ensures.whole records all in
    joined M L s0 s1 c.discard_next.new.directory (AllWhole (r ∷ records)) (AllWhole (r ∷ records)) w1 (c.discard_next.ensures.whole (r ∷ records) w1.after) (λ d w. w)

pub returns-in-Ok-clause-gone : goal.returns-in-Ok-clause-gone
returns-in-Ok-clause-gone g c = λ yes d left. (c.in-Ok.ensures.gone yes d left).0
