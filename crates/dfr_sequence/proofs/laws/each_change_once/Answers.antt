use Rattle.dfr_sequence.proofs.Telling.{once_law}
use Rattle.dfr_sequence.proofs.laws.each_change_once.Goals as goal

pub returns : goal.returns
returns c = once_law
