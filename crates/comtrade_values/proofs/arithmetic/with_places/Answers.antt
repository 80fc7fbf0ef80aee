use Rattle.std.proofs.Common.{arith, rules}
use Rattle.comtrade_values.proofs.Scaled.{long_zeros}
use Rattle.comtrade_values.proofs.arithmetic.with_places.Goals as goal

pub returns-then-zeros-ge36 : goal.returns-then-zeros-ge36
returns-then-zeros-ge36 c = long_zeros c.args.number c.args.places (search rules) (omega arith)
