use Rattle.std.proofs.Common.{sym, refl, ◌∙◌, arith}
use Rattle.std.specs.Option.{option_copied}
use Rattle.comtrade_values.specs.Spelling.{exponent}
use Rattle.comtrade_values.proofs.Scale.{read_some}
use Rattle.comtrade_values.proofs.decimal.Decimal.read.Goals as goal

pub returns : goal.returns
returns c =
    c.number_of.ensures
    ∙ read_some c.without_sign-minus.result.0 c.at_point.result.0.now c.at_point.result.1.now (exponent (option_copied c.at_exponent.result.1)) c.in_ok-number.number c.in_ok-exponent.exponent (omega arith) (sym c.in_ok-number.ensures) (sym c.in_ok-exponent.ensures)
    ∙ rw (c.at_exponent.ensures.rest, c.at_point.ensures.front, c.at_point.ensures.rest, c.without_sign-minus.ensures.rest, c.without_sign-minus.ensures.minus, c.at_exponent.ensures.front) refl
