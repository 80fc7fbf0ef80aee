use Rattle.std.proofs.Common.{rules, tests}
use Rattle.comtrade_values.proofs.decimal.numeral_of.Goals as goal

pub returns : goal.returns
returns c = search (tests, rules)
