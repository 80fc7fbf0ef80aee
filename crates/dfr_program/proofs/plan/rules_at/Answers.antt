use Rattle.std.proofs.Common.{rules}
use Rattle.dfr_program.proofs.plan.rules_at.Goals as goal

pub returns : goal.returns
returns g c = search rules depth 1
