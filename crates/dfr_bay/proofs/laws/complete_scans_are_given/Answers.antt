use Rattle.dfr_bay.proofs.Complete.{complete_law}
use Rattle.dfr_bay.proofs.laws.complete_scans_are_given.Goals as goal

pub returns : goal.returns
returns g c = complete_law
