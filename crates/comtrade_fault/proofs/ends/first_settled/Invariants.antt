use Rattle.std.proofs.Common.{◌≡◌, ◌-◌}
use Rattle.comtrade_fault.specs.Searches.{first_from}
use Rattle.comtrade_fault.specs.Settling.{settled}
use Rattle.comtrade_fault.proofs.ends.first_settled.Given as goal

abbrev pub invariant-loop-row : goal.invariant-loop-row
invariant-loop-row l =
    first_from (settled l.scans l.weights l.signal l.bounds l.cycle l.both) l.fn.first (l.end - l.fn.first)
    ≡ first_from (settled l.scans l.weights l.signal l.bounds l.cycle l.both) l.row (l.end - l.row)
