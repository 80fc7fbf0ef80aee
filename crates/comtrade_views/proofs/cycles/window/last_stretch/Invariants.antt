use Rattle.std.proofs.Common.{ℕ, ◌<◌, ◌≤◌}
use Rattle.comtrade_views.specs.Stretches.{ends_at, Begins}
use Rattle.comtrade_views.proofs.cycles.window.last_stretch.Given as goal

abbrev pub invariant-loop-i : goal.invariant-loop-i
invariant-loop-i l = record {
  before : (k : ℕ) → k < l.i → ends_at l.rates k < l.rows;
  order : l.from ≤ l.rows;
  begins : Begins l.rates l.i l.from;
}
