use Rattle.std.proofs.Common.{refl, ◌∙◌}
use Rattle.dfr_station.proofs.Growing.{grows_on, grows_none}
use Rattle.dfr_station.proofs.first.read_scan.Goals as goal

pub loop-init : goal.loop-init
loop-init g c = (grows_none _ _ _, refl)

pub loop-preserved : goal.loop-preserved
loop-preserved g c = (grows_on c.loop.invariant.0 c.read_on.ensures.read, c.read_on.ensures.same ∙ c.loop.invariant.1)

pub returns-then-not-read_on-clause-read : goal.returns-then-not-read_on-clause-read
returns-then-not-read_on-clause-read g c = grows_on c.loop.invariant.0 c.read_on.ensures.read
