use Rattle.std.proofs.Common.{rules}
use Rattle.dfr_script.proofs.recorder.limits_of.Goals as goal

pub returns-clause-lawful : goal.returns-clause-lawful
returns-clause-lawful g c = search rules depth 1

pub returns-clause-same : goal.returns-clause-same
returns-clause-same g c = search rules depth 1

pub returns-in_err-limits-clause-fault : goal.returns-in_err-limits-clause-fault
returns-in_err-limits-clause-fault g c = search rules depth 1
