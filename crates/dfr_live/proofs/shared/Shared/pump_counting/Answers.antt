use Rattle.std.proofs.Common.{rules}
use Rattle.dfr_live.proofs.shared.Shared.pump_counting.Goals as goal

pub returns-clause-missed : goal.returns-clause-missed
returns-clause-missed g c = search rules depth 1
