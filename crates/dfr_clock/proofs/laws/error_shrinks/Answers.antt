use Rattle.dfr_clock.proofs.Truth.{near_law}
use Rattle.dfr_clock.proofs.laws.error_shrinks.Goals as goal

pub returns : goal.returns
returns c = near_law
