use Rattle.std.proofs.Common.{◌≡◌, ◌-◌}
use Rattle.comtrade_fault.specs.Searches.{first_from}
use Rattle.comtrade_fault.specs.Departures.{stirs_at}
use Rattle.comtrade_fault.proofs.departure.first_stir.Given as goal

abbrev pub invariant-loop-row : goal.invariant-loop-row
invariant-loop-row l =
    first_from (stirs_at l.scans l.weights l.step l.cycle l.quiet) l.fn.first (l.end - l.fn.first)
    ≡ first_from (stirs_at l.scans l.weights l.step l.cycle l.quiet) l.row (l.end - l.row)
