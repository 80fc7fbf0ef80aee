use Rattle.std.proofs.Common.{◌≡◌, ◌+◌, length, decimal, arith}
use Rattle.itoa.proofs.Decimal.{length_four}
use Rattle.comtrade_format.proofs.Places.{digits_stored}
use Rattle.comtrade_format.proofs.values.places.write_more.Goals as goal

pub returns-clause-text : goal.returns-clause-text
returns-clause-text c =
    let len = length_four c.args.n c.requires.more (omega arith) in
    let digits : c.zeros_of_four-zeros.result + length (decimal c.args.n) ≡ 8 = omega (arith, len, c.zeros_of_four-zeros.ensures) in
    digits_stored 8 c.args.slot.now _ c.args.at c.eight_digits.result c.args.n _ (omega arith) c.requires.room digits c.eight_digits.ensures c.write_u64.ensures
