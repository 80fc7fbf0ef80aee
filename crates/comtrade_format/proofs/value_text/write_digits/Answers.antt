use Rattle.std.proofs.Common.{arith}
use Rattle.comtrade_format.proofs.Places.{digits_stored}
use Rattle.comtrade_format.proofs.value_text.write_digits.Goals as goal

pub returns-clause-text : goal.returns-clause-text
returns-clause-text c =
    digits_stored 5 c.args.slot.now _ c.args.at c.five_digits.result c.args.n _ (omega arith) c.requires.room c.zeros_before-zeros.ensures.five c.five_digits.ensures c.write_u64.ensures
