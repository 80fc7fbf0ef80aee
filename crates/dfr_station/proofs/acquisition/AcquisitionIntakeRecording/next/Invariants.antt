use Rattle.dfr_station.specs.Acquiring.{settled}
use Rattle.dfr_station.specs.Arrivals.{HandsNext}
use Rattle.dfr_station.proofs.Acquired.{QuietSoFar}
use Rattle.dfr_station.proofs.acquisition.AcquisitionIntakeRecording.next.Given as goal

abbrev pub invariant-loop : goal.invariant-loop
invariant-loop g l =
    (goal.iterator-loop g).can_next l.iterator' × (goal.iterator-loop g).is_finite l.iterator'
    × QuietSoFar (HandsNext g.I.Read.remaining) (record l.fn.self { scans = settled l.fn.self.scans }) l.self
