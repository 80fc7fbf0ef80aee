use Rattle.std.proofs.Common.{arith, rules}
use Rattle.comtrade_analysis.proofs.Floors.{floor_of, longer_same, too_small}
use Rattle.comtrade_analysis.proofs.mean_square.MeanSquare.finer.Goals as goal

pub loop-longer-preserved : goal.loop-longer-preserved
loop-longer-preserved c =
    let old = c.loop-longer.sum in
    let new = c.in-Some.longer in
    let next = c.in-Some.ensures in
    record {
      same = longer_same c.args.self old.0 new.value old.1.0 new.places next.value next.places c.loop-longer.invariant.same;
      small = next.small;
      few = search rules;
    }

pub returns-then-value-least-clause-none : goal.returns-then-value-least-clause-none
returns-then-value-least-clause-none c =
    let sum = c.loop-longer.sum in
    too_small c.args.self c.args.least sum.0 sum.1.0 c.in_default.ensures.none (omega arith) c.loop-longer.invariant.same c.if-value-least.true

pub returns-clause-floor : goal.returns-clause-floor
returns-clause-floor c = let sum = c.loop-longer.sum in floor_of c.args.self sum.0 sum.1.0 c.loop-longer.invariant.same
