use Rattle.std.proofs.Common.{arith}
use Rattle.comtrade_format.proofs.Places.{digits_stored}
use Rattle.comtrade_format.proofs.values.places.write_few.Goals as goal

pub returns-clause-text : goal.returns-clause-text
returns-clause-text c =
    digits_stored 4 c.args.slot.now _ c.args.at c.four_digits.result c.args.n _ (omega arith) c.requires.room c.zeros_of_four-zeros.ensures c.four_digits.ensures.digits c.write_u64.ensures
