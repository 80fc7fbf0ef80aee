use Rattle.std.proofs.Common.{[], ◌∷◌, ◌++◌, refl, arith}
use Rattle.dfr_detect.proofs.Each.{stepped_none, stepped_more, stepped_all}
use Rattle.dfr_detect.proofs.lost.lose_each.Goals as goal

pub loop-detector-init : goal.loop-detector-init
loop-detector-init g c = ([], stepped_none c.args.list.now [] [])

pub loop-detector-preserved : goal.loop-detector-preserved
loop-detector-preserved g c =
    let so = c.loop-detector.invariant in (
      so.0 ++ c.step.result ∷ [],
      stepped_more c.args.list.now [] [] so.0 c.loop-detector.list c.loop-detector.detector-index c.detector-item.result c.step.result c.step.new.self (so.0 ++ c.step.result ∷ []) so.1 (omega arith) c.step.ensures refl,
    )

pub returns : goal.returns
returns g c =
    let so = c.loop-detector.invariant in
    λ ws scans h. (stepped_all c.args.list.now [] [] so.0 c.loop-detector.list c.loop-detector.detector-index so.1 (omega arith) ws scans h).1
