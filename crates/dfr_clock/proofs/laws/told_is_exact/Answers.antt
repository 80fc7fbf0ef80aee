use Rattle.dfr_clock.proofs.Truth.{told_law}
use Rattle.dfr_clock.proofs.laws.told_is_exact.Goals as goal

pub returns : goal.returns
returns c = told_law
