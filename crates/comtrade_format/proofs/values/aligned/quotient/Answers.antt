use Rattle.std.proofs.Common.{arith}
use Rattle.std.proofs.Math.Nat.{one-le-pow}
use Rattle.comtrade_format.proofs.values.aligned.quotient.Goals as goal

pub nonzero_div-result : goal.nonzero_div-result
nonzero_div-result c = omega (arith, one-le-pow c.args.places 10 (omega arith), c.ten_to.ensures)
