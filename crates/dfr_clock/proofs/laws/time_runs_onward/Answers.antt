use Rattle.dfr_clock.proofs.Truth.{onward_law}
use Rattle.dfr_clock.proofs.laws.time_runs_onward.Goals as goal

pub returns : goal.returns
returns c = onward_law
