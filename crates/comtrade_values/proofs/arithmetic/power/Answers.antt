use Rattle.std.proofs.Common.{arith}
use Rattle.std.proofs.lemmas.Int.{ints}
use Rattle.comtrade_values.proofs.Scaled.{few_zeros}
use Rattle.comtrade_values.proofs.arithmetic.power.Goals as goal

pub pow-requires : goal.pow-requires
pow-requires c = let f = few_zeros c.args.zeros (omega arith) in omega (arith, ints)
