use Rattle.dfr_clock.proofs.Truth.{least_law}
use Rattle.dfr_clock.proofs.laws.least_is_true.Goals as goal

pub returns : goal.returns
returns c = least_law
