use Rattle.dfr_bay.proofs.Counts.{count_law}
use Rattle.dfr_bay.proofs.laws.sample_has_its_count.Goals as goal

pub returns : goal.returns
returns c = count_law
