use Rattle.std.proofs.Common.{◌≡◌, w32, to_z, of_z, arith}
use Rattle.std.proofs.lemmas.Int.{ints}
use Rattle.comtrade_values.proofs.PlainNumbers.{begins}
use Rattle.comtrade_values.proofs.sample_numbers.sample_number.Goals as goal

pub returns-clause-first : goal.returns-clause-first
returns-clause-first c =
    let same : to_z w32 (of_z w32 c.signed.result) ≡ c.signed.result = omega (arith, ints, c.signed.type_inv) in
    rw (same, c.signed.ensures.value) (begins c.without_minus-minus.result.0 c.args.text.now c.without_minus-minus.result.1.now c.in_ok-number.number _ c.without_minus-minus.ensures.cut c.in_ok-number.ensures.first (omega (arith, c.in_ok-number.ensures.small)))
