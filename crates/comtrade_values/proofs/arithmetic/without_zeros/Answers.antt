use Rattle.std.proofs.Common.{arith}
use Rattle.comtrade_values.proofs.Scaled.{fewer}
use Rattle.comtrade_values.proofs.arithmetic.without_zeros.Goals as goal

pub loop-shorter-preserved : goal.loop-shorter-preserved
loop-shorter-preserved c =
    let kept = c.loop-shorter.invariant in
    let next = c.in-Some.ensures in
    (omega (arith, next.fewer), fewer c.args.number c.loop-shorter.trimmed c.in-Some.shorter kept.1 kept.0 next.same next.fewer)
