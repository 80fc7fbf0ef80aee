use Rattle.std.proofs.Common.{rules, tests}
use Rattle.comtrade_values.proofs.items.ItemsPartialEq.eq.Goals as goal

pub returns : goal.returns
returns g c = search (tests, rules)
