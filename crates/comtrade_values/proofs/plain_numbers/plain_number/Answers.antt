use Rattle.std.proofs.Common.{◌≡◌, w64, to_z, of_z, arith}
use Rattle.std.proofs.lemmas.Int.{ints}
use Rattle.comtrade_values.proofs.PlainNumbers.{begins}
use Rattle.comtrade_values.proofs.plain_numbers.plain_number.Goals as goal

pub returns-in-Some-clause-first : goal.returns-in-Some-clause-first
returns-in-Some-clause-first c =
    let same : to_z w64 (of_z w64 c.signed.result) ≡ c.signed.result = omega (arith, ints, c.signed.type_inv) in
    rw (same, c.signed.ensures.value) (begins c.without_minus-minus.result.0 c.args.text.now c.without_minus-minus.result.1.now c.in-Some.number _ c.without_minus-minus.ensures.cut c.in-Some.ensures.first c.in-Some.ensures.small)
