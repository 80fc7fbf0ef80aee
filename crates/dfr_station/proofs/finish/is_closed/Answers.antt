use Rattle.std.proofs.Common.{◌∷◌, ◌∙◌}
use Rattle.dfr_station.proofs.finish.is_closed.Goals as goal

pub loop-preserved : goal.loop-preserved
loop-preserved g c =
    let far = c.loop.invariant in
    let one = c.if-not-is_lost.ensures in
    ((one.lost.0 ∷ far.0.0, (c.loop.recorder, far.0.1, one.lost.1)), one.layout ∙ far.1)
