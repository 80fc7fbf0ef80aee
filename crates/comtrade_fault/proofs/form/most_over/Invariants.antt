use Rattle.std.proofs.Common.{◌≡◌, ◌^◌, ◌≤◌}
use Rattle.comtrade_fault.specs.Levels.{most_over}
use Rattle.comtrade_fault.proofs.form.most_over.Given as goal

abbrev pub invariant-loop-i : goal.invariant-loop-i
invariant-loop-i l = record {
  value : l.most ≡ most_over l.scans l.weights l.signal l.form l.first l.i;
  small : l.most ≤ 2 ^ 100;
}
