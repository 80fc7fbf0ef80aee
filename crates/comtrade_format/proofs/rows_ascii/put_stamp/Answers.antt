use Rattle.std.proofs.Common.{rules, tests}
use Rattle.comtrade_format.proofs.rows_ascii.put_stamp.Goals as goal

pub returns-in-None : goal.returns-in-None
returns-in-None g c = search (tests, rules)
