use Rattle.std.proofs.Common.{rules, ◌≡◌, length}
use Rattle.dfr_recorder.proofs.Readers.{waiting_law}
use Rattle.dfr_recorder.proofs.recorder.Recorder.waiting.Goals as goal

pub returns-clause-history : goal.returns-clause-history
returns-clause-history g c =
    let is : c.len.result ≡ length c.args.self.now.shelf = search rules in
    waiting_law c.args.self.now c.len.result is

pub returns-clause-value : goal.returns-clause-value
returns-clause-value g c = search rules depth 1
