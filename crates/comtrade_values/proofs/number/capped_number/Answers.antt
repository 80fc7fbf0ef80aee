use Rattle.std.proofs.Common.{sym, ◌∙◌, arith}
use Rattle.comtrade_values.proofs.Capped.{capped_more, digits_more}
use Rattle.comtrade_values.proofs.number.capped_number.Goals as goal

pub loop-digit-preserved : goal.loop-digit-preserved
loop-digit-preserved c =
    let digit = sym c.is_ascii_digit.ensures.value ∙ c.if-not-is_ascii_digit.false in
    record {
      small = omega arith;
      digits_left = digits_more c.args.digits.now c.loop-digit.digit-index c.loop-digit-test.true digit ∙ c.loop-digit.invariant.digits_left;
      same = capped_more c.args.digits.now c.loop-digit.digit-index c.loop-digit.number _ _ _ c.loop-digit-test.true digit c.min-number.ensures c.loop-digit.invariant.same;
    }
