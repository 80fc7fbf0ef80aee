use Rattle.std.proofs.Common.{rules}
use Rattle.comtrade_values.proofs.Scaled.{long_product}
use Rattle.comtrade_values.proofs.arithmetic.product.Goals as goal

pub returns-in_err-units : goal.returns-in_err-units
returns-in_err-units c = search (rules, long_product)
