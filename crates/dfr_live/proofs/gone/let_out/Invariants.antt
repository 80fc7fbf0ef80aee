use Rattle.std.proofs.Common.{◌≡◌, ◌+◌, ◌++◌, length}
use Rattle.rtrb.specs.Ring.{received, known_items}
use Rattle.dfr_live.specs.Lane.{lane_out}
use Rattle.dfr_live.proofs.gone.let_out.Given as goal

abbrev pub invariant-loop : goal.invariant-loop
invariant-loop g l =
    (lane_out l.out ≡ lane_out l.initial.out)
    × (received l.out ++ known_items l.out ≡ received l.initial.out ++ known_items l.initial.out)
    × (length (known_items l.out) + l.counter ≡ l.waiting)
