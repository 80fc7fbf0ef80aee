use Rattle.std.proofs.Common.{arith}
use Rattle.comtrade_values.proofs.Scale.{many_zeros, few_zeros}
use Rattle.comtrade_values.proofs.decimal.with_zeros.Goals as goal

pub returns-then-zeros-ge36 : goal.returns-then-zeros-ge36
returns-then-zeros-ge36 c = λ h. let m = many_zeros c.args.number c.args.zeros (omega arith) (omega arith) in omega arith

pub pow-requires : goal.pow-requires
pow-requires c = few_zeros c.args.zeros (omega arith)
