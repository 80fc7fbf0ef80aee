use Rattle.comtrade_read.proofs.EndMark.{cut_at_first, cut_nowhere}
use Rattle.comtrade_read.proofs.ascii.before_end_mark.Goals as goal

pub returns-in-Some : goal.returns-in-Some
returns-in-Some c = cut_at_first 26 c.args.dat.now c.in-Some.at c.in-Some.ensures

pub returns-in-None : goal.returns-in-None
returns-in-None c = cut_nowhere 26 c.args.dat.now c.in-None.ensures
