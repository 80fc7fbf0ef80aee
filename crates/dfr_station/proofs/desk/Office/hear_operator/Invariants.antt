use Rattle.std.proofs.Common.{◌≡◌}
use Rattle.dfr_station.proofs.desk.Office.hear_operator.Given as goal

abbrev pub invariant-loop : goal.invariant-loop
invariant-loop g l = l.self ≡ l.fn.self
