use Rattle.std.proofs.Common.{◌≡◌}
use Rattle.dfr_live.specs.Station.{CountsOn}
use Rattle.dfr_live.proofs.pumping.pump_to.Given as goal

abbrev pub invariant-loop : goal.invariant-loop
invariant-loop g l =
    (goal.iterator-loop g).can_next l.iterator' × (goal.iterator-loop g).is_finite l.iterator'
    × (l.turns.all ≡ l.initial.turns.all)
    × CountsOn l.fn.place l.initial.token l.token
