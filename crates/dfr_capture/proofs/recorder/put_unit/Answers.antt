use Rattle.dfr_capture.proofs.Feeding.{feeds_none}
use Rattle.dfr_capture.proofs.recorder.put_unit.Goals as goal

pub returns-in-None : goal.returns-in-None
returns-in-None g c = rw (← c.in-None.ensures.value) (λ us w. feeds_none c.args.plan.now us c.args.feed.now c.args.bay.now w)

pub returns-in-Some : goal.returns-in-Some
returns-in-Some g c = rw (← c.in-Some.ensures.value) c.put_unit_of.ensures
