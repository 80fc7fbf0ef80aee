use Rattle.std.proofs.Common.{◌≡◌, ◌*◌, ◌^◌, ◌≤◌}
use Rattle.comtrade_fault.specs.Levels.{sum_over}
use Rattle.comtrade_fault.proofs.form.sum_over.Given as goal

abbrev pub invariant-loop-i : goal.invariant-loop-i
invariant-loop-i l = record {
  value : l.sum ≡ sum_over l.scans l.weights l.signal l.form l.first l.i;
  small : l.sum ≤ 2 ^ 100 * l.i;
}
