use Rattle.std.proofs.Common.{rules}
use Rattle.dfr_recorder.proofs.recorder.Recorder.set_rules.Goals as goal

pub returns-clause-ok : goal.returns-clause-ok
returns-clause-ok g c = search rules depth 1

pub returns-clause-opening : goal.returns-clause-opening
returns-clause-opening g c = search rules depth 1

pub returns-clause-exact : goal.returns-clause-exact
returns-clause-exact g c = search rules depth 1
