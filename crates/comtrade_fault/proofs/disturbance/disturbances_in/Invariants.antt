use Rattle.std.proofs.Common.{◌≡◌, ◌-◌, ◌*◌, ◌≤◌, ◌++◌, length}
use Rattle.comtrade_fault.specs.Courses.{course, chain}
use Rattle.comtrade_fault.proofs.disturbance.disturbances_in.Given as goal

abbrev pub invariant-loop-i : goal.invariant-loop-i
invariant-loop-i g l = record {
  back : 2 * l.cycle ≤ l.from;
  found : l.found.items ++ chain (course l.scans l.weights l.remainder) (course l.voltages l.voltage_weights l.remainder) l.bounds l.cycle (length l.scans - l.i) l.from
      ≡ chain (course l.scans l.weights l.remainder) (course l.voltages l.voltage_weights l.remainder) l.bounds l.cycle (length l.scans) (2 * l.cycle);
}
