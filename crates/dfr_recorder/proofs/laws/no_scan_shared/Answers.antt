use Rattle.dfr_recorder.proofs.Unshared.{unshared_law}
use Rattle.dfr_recorder.proofs.laws.no_scan_shared.Goals as goal

pub returns : goal.returns
returns c = unshared_law
