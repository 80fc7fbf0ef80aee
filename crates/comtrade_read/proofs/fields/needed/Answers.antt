use Rattle.std.proofs.Common.{rules, tests}
use Rattle.comtrade_read.proofs.fields.needed.Goals as goal

pub returns-in-None : goal.returns-in-None
returns-in-None g c = search (tests, rules)
