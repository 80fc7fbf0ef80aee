use Rattle.std.proofs.Common.{arith, rules, append_assoc, to_z-of_z, FitsSigned, ◌<ℤ◌, ◌≤ℤ◌, pos}
use Rattle.std.specs.Int.{w128}
use Rattle.std.proofs.lemmas.Int.{ints}
use Rattle.std.proofs.lemmas.Result.{IfOk-equal}
use Rattle.comtrade_values.specs.Written.{decimal_text}
use Rattle.comtrade_values.proofs.Points.{minus-below, minus-not_below}
use Rattle.comtrade_values.proofs.writing.put_decimal.Goals as goal
use Rattle.comtrade_values.proofs.writing.put_decimal.Goals.{then-units-lt0+in_ok-push, else-units-lt0}

pub returns : goal.returns
unfolding decimal_text
returns g c =
    let same = c.units-units.ensures.value in
    let fits : FitsSigned w128 c.units-units.result = search rules in
    let abs = simp to_z-of_z at c.unsigned_abs.ensures.value in
    elim c.if-units-lt0.branch [
      | then-units-lt0+in_ok-push w ↦ (let low : c.units-units.result <ℤ pos 0 = omega (arith, ints) in
          let sign = minus-below c.units-units.result low in
          rw (← same, sign, ← abs) (search (rules, IfOk-equal, append_assoc)))
      | else-units-lt0 w ↦ (let low : pos 0 ≤ℤ c.units-units.result = omega (arith, ints) in
          let sign = minus-not_below c.units-units.result low in
          rw (← same, sign, ← abs) (search (rules, IfOk-equal, append_assoc)))
    ]
