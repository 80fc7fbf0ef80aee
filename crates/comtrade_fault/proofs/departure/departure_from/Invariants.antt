use Rattle.std.proofs.Common.{◌≡◌, ◌-◌, length}
use Rattle.comtrade_fault.specs.Searches.{first_from}
use Rattle.comtrade_fault.specs.Departures.{departs_at}
use Rattle.comtrade_fault.proofs.departure.departure_from.Given as goal

abbrev pub invariant-loop-row : goal.invariant-loop-row
invariant-loop-row l =
    first_from (departs_at l.scans l.weights l.bounds l.cycle) l.fn.from (length l.scans - l.fn.from)
    ≡ first_from (departs_at l.scans l.weights l.bounds l.cycle) l.row (length l.scans - l.row)
