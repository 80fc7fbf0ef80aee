use Rattle.std.proofs.Common.{arith}
use Rattle.comtrade_read.proofs.Digits.{day_found}
use Rattle.comtrade_read.proofs.instant.day_at.Goals as goal

pub returns-clause-value : goal.returns-clause-value
returns-clause-value c = day_found c.args.year c.args.month c.args.day c.civil.result (omega arith) (omega arith) (omega arith) (omega arith) (c.civil.ensures.succeeds, c.civil.ensures.value)
