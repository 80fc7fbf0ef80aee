use Rattle.std.proofs.Common.{sym, ◌∙◌, arith}
use Rattle.comtrade_values.proofs.Capped.{size_some, size_none}
use Rattle.comtrade_values.proofs.decimal.number_at.Goals as goal

pub returns-in_err-number : goal.returns-in_err-number
returns-in_err-number c = c.from_residual.ensures ∙ size_none c.args.whole.now c.args.fraction.now (omega arith) (sym c.in_err-number.ensures)

pub returns : goal.returns
returns c = size_some c.args.whole.now c.args.fraction.now c.in_ok-number.number c.capped_number-2.result (omega arith) (sym c.in_ok-number.ensures) c.capped_number-2.ensures
