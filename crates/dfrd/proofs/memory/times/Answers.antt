use Rattle.std.proofs.Common.{arith}
use Rattle.std.proofs.Math.Nat.{mul-le-mul_left}
use Rattle.dfrd.proofs.memory.times.Goals as goal

pub overflow_mul-result : goal.overflow_mul-result
overflow_mul-result c = omega (arith, c.requires.few, mul-le-mul_left c.args.scans c.requires.small)

pub returns-clause-bound : goal.returns-clause-bound
returns-clause-bound c = omega (arith, c.requires.few, mul-le-mul_left c.args.scans c.requires.small)
