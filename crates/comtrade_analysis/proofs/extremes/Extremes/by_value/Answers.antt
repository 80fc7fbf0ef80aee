use Rattle.std.proofs.Common.{pos, ◌<ℤ◌, ◌≤ℤ◌, arith}
use Rattle.std.proofs.lemmas.Int.{ints}
use Rattle.comtrade_analysis.proofs.ValueOrder.{same_order, other_order}
use Rattle.comtrade_analysis.proofs.extremes.Extremes.by_value.Goals as goal

pub returns-then-units-lt0 : goal.returns-then-units-lt0
returns-then-units-lt0 c = λ rows channel n h.
    let below : c.args.factors.now.a.units <ℤ pos 0 = omega (arith, ints, c.units.ensures.value) in
    other_order rows channel n c.args.factors.now c.args.self h below

pub returns-else-units-lt0 : goal.returns-else-units-lt0
returns-else-units-lt0 c = λ rows channel n h.
    let above : pos 0 ≤ℤ c.args.factors.now.a.units = omega (arith, ints, c.units.ensures.value) in
    same_order rows channel n c.args.factors.now c.args.self h above
