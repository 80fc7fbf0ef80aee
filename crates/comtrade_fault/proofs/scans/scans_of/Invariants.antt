use Rattle.std.proofs.Common.{◌≡◌, map, take}
use Rattle.comtrade_fault.specs.Scanning.{scan_in}
use Rattle.comtrade_fault.proofs.scans.scans_of.Given as goal

abbrev pub invariant-loop-row : goal.invariant-loop-row
invariant-loop-row g l = l.scans.items ≡ map (scan_in l.sequence) (take l.row-index l.rows)
