use Rattle.dfr_sequence.proofs.Telling.{few_law}
use Rattle.dfr_sequence.proofs.laws.few_in_a_second.Goals as goal

pub returns : goal.returns
returns c = few_law
