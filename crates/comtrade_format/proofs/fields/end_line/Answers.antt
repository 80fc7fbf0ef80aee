use Rattle.std.proofs.Common.{rules, tests}
use Rattle.comtrade_format.proofs.fields.end_line.Goals as goal

pub returns : goal.returns
returns g c = search (tests, rules)
