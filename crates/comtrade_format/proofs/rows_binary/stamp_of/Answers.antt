use Rattle.std.proofs.Common.{rules, tests}
use Rattle.comtrade_format.proofs.rows_binary.stamp_of.Goals as goal

pub returns-in-None : goal.returns-in-None
returns-in-None c = search (tests, rules)
