use Rattle.dfr_live.specs.Devices.{GotOn}
use Rattle.dfr_live.proofs.export.hand_rest.Given as goal

abbrev pub invariant-loop : goal.invariant-loop
invariant-loop g l =
    (goal.iterator-loop g).can_next l.iterator' × (goal.iterator-loop g).is_finite l.iterator'
    × GotOn g.K.Outlet.puts g.K.Outlet.lacks g.N.Session.opening l.fn.kind l.initial.outlet l.initial.token l.initial.gone l.outlet l.token l.gone
