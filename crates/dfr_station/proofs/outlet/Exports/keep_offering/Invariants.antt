use Rattle.dfr_station.proofs.Tries.{TriedSoFar}
use Rattle.dfr_station.proofs.outlet.Exports.keep_offering.Given as goal

abbrev pub invariant-loop : goal.invariant-loop
invariant-loop g l =
    (goal.iterator-loop g).can_next l.iterator' × (goal.iterator-loop g).is_finite l.iterator'
    × TriedSoFar g.K.Store.stores l.fn.key (record { extent = l.fn.extent; cfg = l.fn.cfg; dat = l.fn.dat }) l.initial.self l.self
