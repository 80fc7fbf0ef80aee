use Rattle.std.proofs.Common.{rules, tests}
use Rattle.comtrade_format.proofs.texts.first_text.Goals as goal

pub returns : goal.returns
returns g c = search (tests, rules)
