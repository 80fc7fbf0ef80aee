use Rattle.dfr_folder.proofs.Moments.{weaker}
use Rattle.dfr_folder.proofs.Whole.{whole_given_up}
use Rattle.dfr_folder.proofs.folder.give_up.Goals as goal

pub returns-clause-whole : goal.returns-clause-whole
returns-clause-whole g c =
    let F = g.D.Directory.files in
    let M = g.D.Directory.may_leave in
    let s0 = c.args.directory.now in
    λ records all. weaker M g.D.Directory.left_since s0 c.remove_pair.new.directory _ _ c.remove_pair.ensures.any_moment (whole_given_up F M s0 records c.args.key c.requires.rests all)
