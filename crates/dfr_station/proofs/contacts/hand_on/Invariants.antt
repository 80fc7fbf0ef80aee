use Rattle.std.proofs.Common.{take, reverse}
use Rattle.rtrb.specs.Ring.{sent}
use Rattle.dfr_live.specs.Devices.{Came}
use Rattle.dfr_sequence.specs.Sequences.{Kept}
use Rattle.dfr_station.specs.Handed.{handed, HandsOne}
use Rattle.dfr_station.proofs.contacts.hand_on.Given as goal

abbrev pub invariant-loop-change : goal.invariant-loop-change
invariant-loop-change g l =
    (k : Kept) → Came HandsOne (handed k (sent l.fn.lane) l.fn.untold) (reverse (take l.change-index l.told)) (handed k (sent l.lane) l.untold)
