use Rattle.std.proofs.Common.{rules}
use Rattle.dfr_recorder.proofs.record.Record.scans.Goals as goal

pub returns : goal.returns
returns g c = search rules depth 1
