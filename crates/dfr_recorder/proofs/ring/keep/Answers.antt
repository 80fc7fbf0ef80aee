use Rattle.std.proofs.Common.{ap}
use Rattle.dfr_recorder.proofs.ring.keep.Goals as goal

pub returns-clause-items : goal.returns-clause-items
returns-clause-items g c = ap (λ b. b.items) c.push_back.ensures.items

pub returns-clause-places : goal.returns-clause-places
returns-clause-places g c = ap (λ b. b.capacity) c.push_back.ensures.items
