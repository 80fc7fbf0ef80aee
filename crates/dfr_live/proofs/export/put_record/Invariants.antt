use Rattle.std.specs.Prelude.{List}
use Rattle.dfr_live.specs.Devices.{Tried}
use Rattle.dfr_live.proofs.export.put_record.Given as goal

abbrev pub invariant-loop : goal.invariant-loop
invariant-loop g l =
    (goal.iterator-loop g).can_next l.iterator' × (goal.iterator-loop g).is_finite l.iterator'
    × ((tries : List (Unit {0})) × Tried g.K.Outlet.lacks l.fn.taken.extent l.initial.outlet tries l.outlet)
