use Rattle.std.proofs.Common.{◌≡◌, ◌*◌, ◌^◌, ◌≤◌}
use Rattle.comtrade_fault.specs.Turning as spec
use Rattle.comtrade_fault.proofs.turn.turn_over.Given as goal

abbrev pub invariant-loop-i : goal.invariant-loop-i
invariant-loop-i l = record {
  value : l.sum ≡ spec.turns l.scans l.weights l.signal l.lag l.cycle l.remainder l.first l.i;
  small : l.sum ≤ 2 ^ 101 * l.i;
}
