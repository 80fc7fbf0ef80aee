use Rattle.std.proofs.Common.{ℕ, List, ◌∷◌}
use Rattle.dfr_folder.specs.declared.name.Key.{Key}
use Rattle.dfr_folder.specs.Pairs.{AllWhole}
use Rattle.dfr_folder.proofs.Moments.{joined}
use Rattle.dfr_folder.proofs.opened.put_or_mend.Goals as goal

pub returns-in-Ok-There-clause-whole : goal.returns-in-Ok-There-clause-whole
returns-in-Ok-There-clause-whole g c =
    let M = g.D.Directory.may_leave in
    let L = g.D.Directory.left_since in
    let s0 = c.args.directory.now in
    let s1 = c.put_new.new.directory in
    let r : Key × List ℕ × List ℕ = (c.args.key, c.args.cfg.now, c.args.dat.now) in
    λ records all.
    let w1 = c.put_new.ensures.whole records all in
    joined M L s0 s1 c.mend.new.directory (AllWhole (r ∷ records)) (AllWhole (r ∷ records)) w1 (c.mend.ensures.whole (r ∷ records) w1.after) (λ d w. w)

pub returns-in-Ok-Gone-clause-whole : goal.returns-in-Ok-Gone-clause-whole
returns-in-Ok-Gone-clause-whole g c =
    let M = g.D.Directory.may_leave in
    let L = g.D.Directory.left_since in
    let s0 = c.args.directory.now in
    let s1 = c.put_new.new.directory in
    let r : Key × List ℕ × List ℕ = (c.args.key, c.args.cfg.now, c.args.dat.now) in
    λ records all.
    let w1 = c.put_new.ensures.whole records all in
    joined M L s0 s1 c.mend.new.directory (AllWhole (r ∷ records)) (AllWhole (r ∷ records)) w1 (c.mend.ensures.whole (r ∷ records) w1.after) (λ d w. w)

pub returns-in-Ok-Left-clause-whole : goal.returns-in-Ok-Left-clause-whole
returns-in-Ok-Left-clause-whole g c =
    let M = g.D.Directory.may_leave in
    let L = g.D.Directory.left_since in
    let s0 = c.args.directory.now in
    let s1 = c.put_new.new.directory in
    let r : Key × List ℕ × List ℕ = (c.args.key, c.args.cfg.now, c.args.dat.now) in
    λ records all.
    let w1 = c.put_new.ensures.whole records all in
    joined M L s0 s1 c.mend.new.directory (AllWhole (r ∷ records)) (AllWhole (r ∷ records)) w1 (c.mend.ensures.whole (r ∷ records) w1.after) (λ d w. w)

pub returns-in-Err-mend-clause-whole : goal.returns-in-Err-mend-clause-whole
returns-in-Err-mend-clause-whole g c =
    let M = g.D.Directory.may_leave in
    let L = g.D.Directory.left_since in
    let s0 = c.args.directory.now in
    let s1 = c.put_new.new.directory in
    let r : Key × List ℕ × List ℕ = (c.args.key, c.args.cfg.now, c.args.dat.now) in
    λ records all.
    let w1 = c.put_new.ensures.whole records all in
    joined M L s0 s1 c.mend.new.directory (AllWhole (r ∷ records)) (AllWhole (r ∷ records)) w1 (c.mend.ensures.whole (r ∷ records) w1.after) (λ d w. w)
