use Rattle.dfr_recorder.proofs.Sharing.{sharing_law}
use Rattle.dfr_recorder.proofs.laws.scans_may_be_shared.Goals as goal

pub returns : goal.returns
returns c = sharing_law
