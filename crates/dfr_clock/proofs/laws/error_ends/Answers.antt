use Rattle.dfr_clock.proofs.Truth.{end_law}
use Rattle.dfr_clock.proofs.laws.error_ends.Goals as goal

pub returns : goal.returns
returns c = end_law
