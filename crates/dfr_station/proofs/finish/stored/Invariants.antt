use Rattle.std.proofs.Common.{◌≡◌, ◌+◌, List, length}
use Rattle.dfr_live.specs.Devices.{files_of}
use Rattle.dfr_station.specs.Dated.{layout_under}
use Rattle.dfr_station.specs.Finishing.{TriedInVain}
use Rattle.dfr_station.specs.declared.event.Trouble.{Trouble}
use Rattle.dfr_station.proofs.finish.stored.Given as goal

abbrev pub invariant-loop-tries : goal.invariant-loop-tries
invariant-loop-tries g l =
    (troubles : List Trouble) × (length troubles + 1 ≡ l.tries)
    × TriedInVain g.K.Store.stores l.fn.key (files_of (layout_under l.fn.layout l.fn.redated) l.fn.kind l.fn.taken) l.initial.store troubles l.store
