use Rattle.std.proofs.Common.{rules}
use Rattle.comtrade_read.proofs.verdict.verdict_of.Goals as goal

pub returns-in-Err : goal.returns-in-Err
returns-in-Err g c = search rules depth 1

pub returns-in-Ok-clause-faulty : goal.returns-in-Ok-clause-faulty
returns-in-Ok-clause-faulty g c = search rules depth 1
