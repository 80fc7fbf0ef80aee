use Rattle.std.proofs.Common.{◌≡◌}
use Rattle.std.specs.Prelude.{All}
use Rattle.dfr_live.specs.Devices.{GotAll, IsTake}
use Rattle.dfr_live.proofs.export.export.Given as goal

abbrev pub invariant-loop : goal.invariant-loop
invariant-loop g l =
    (goal.iterator-loop g).can_next l.iterator' × (goal.iterator-loop g).is_finite l.iterator'
    × (l.token.seat ≡ l.initial.token.seat) × (l.token.pumped ≡ l.initial.token.pumped)
    × GotAll g.K.Outlet.puts g.K.Outlet.lacks l.fn.shared l.fn.kind l.initial.outlet l.token.made l.gone l.outlet
    × All IsTake l.token.made
