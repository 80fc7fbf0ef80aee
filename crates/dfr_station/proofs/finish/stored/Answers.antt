use Rattle.std.proofs.Common.{arith, ◌∷◌}
use Rattle.dfr_station.proofs.finish.stored.Goals as goal

pub loop-tries-preserved : goal.loop-tries-preserved
loop-tries-preserved g c =
    let far = c.loop-tries.invariant in
    (c.in-Err.trouble ∷ far.0, omega (arith, far.1), (c.loop-tries.store, far.2, (c.in-Err.ensures, c.if-is_storm.ensures)))
