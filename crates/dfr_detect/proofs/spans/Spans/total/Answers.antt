use Rattle.dfr_detect.proofs.Times.{times_bounded}
use Rattle.dfr_detect.proofs.spans.Spans.total.Goals as goal

pub returns-clause-bound : goal.returns-clause-bound
returns-clause-bound g c = times_bounded _ _ _ c.self.invariant
