use Rattle.std.proofs.Common.{rules}
use Rattle.comtrade_format.proofs.values.aligned.AlignedScale.units_at.Goals as goal

pub returns-clause-some : goal.returns-clause-some
returns-clause-some c = search rules depth 1

pub returns-clause-value : goal.returns-clause-value
returns-clause-value c = search rules depth 1
