use Rattle.dfr_clock.proofs.Truth.{window_law}
use Rattle.dfr_clock.proofs.laws.window_keeps_least.Goals as goal

pub returns : goal.returns
returns c = window_law
