use Rattle.std.proofs.Common.{rules}
use Rattle.dfr_recorder.proofs.limits.Limits.new.Goals as goal

pub invariant_of-result : goal.invariant_of-result
invariant_of-result g c = search rules depth 1

pub returns-clause-shared : goal.returns-clause-shared
returns-clause-shared g c = search rules depth 1

pub returns-then-not-has_stamps-clause-fault : goal.returns-then-not-has_stamps-clause-fault
returns-then-not-has_stamps-clause-fault g c = search rules depth 1

pub returns-then-shelf-eq0-clause-fault : goal.returns-then-shelf-eq0-clause-fault
returns-then-shelf-eq0-clause-fault g c = search rules depth 1

pub returns-then-shelf-gt-MOST_WAITING-clause-fault : goal.returns-then-shelf-gt-MOST_WAITING-clause-fault
returns-then-shelf-gt-MOST_WAITING-clause-fault g c = search rules depth 1
