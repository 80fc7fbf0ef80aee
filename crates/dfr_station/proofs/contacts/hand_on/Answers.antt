use Rattle.rtrb.specs.Ring.{sent}
use Rattle.dfr_station.specs.Handed.{handed}
use Rattle.dfr_station.proofs.HandedOn.{handed_next}
use Rattle.dfr_station.proofs.contacts.hand_on.Goals as goal

pub loop-change-preserved : goal.loop-change-preserved
loop-change-preserved g c = λ k.
    handed_next (handed k (sent c.args.lane.now) c.args.untold.now) (handed k (sent c.loop-change.lane) c.loop-change.untold)
    (handed k (sent c.hand_one.new.lane) c.hand_one.new.untold) c.args.told.now c.loop-change.change-index _
    c.loop-change-test.true (c.loop-change.invariant k) (c.hand_one.ensures k)
