use Rattle.std.proofs.Common.{rules}
use Rattle.dfr_recorder.proofs.marks.extend.Goals as goal

pub returns : goal.returns
returns c = search rules depth 1
