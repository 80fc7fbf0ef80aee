use Rattle.dfr_clock.proofs.Truth.{slew_law}
use Rattle.dfr_clock.proofs.laws.slew_is_bounded.Goals as goal

pub returns : goal.returns
returns c = slew_law
