use Rattle.std.proofs.Common.{rules, ◌≡◌}
use Rattle.std.specs.Prelude.{is_some}
use Rattle.dfr_recorder.proofs.Readers.{recording_law}
use Rattle.dfr_recorder.proofs.recorder.Recorder.is_recording.Goals as goal

pub returns-clause-history : goal.returns-clause-history
returns-clause-history g c =
    let is : c.is_some.result ≡ is_some c.args.self.now.recording = search rules in
    recording_law c.args.self.now c.is_some.result is

pub returns-clause-value : goal.returns-clause-value
returns-clause-value g c = search rules depth 1
