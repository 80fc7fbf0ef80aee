use Rattle.std.proofs.Common.{rules}
use Rattle.dfr_script.proofs.recorder.rules_in.Goals as goal

pub returns-clause-rules : goal.returns-clause-rules
returns-clause-rules g c = search rules depth 1
