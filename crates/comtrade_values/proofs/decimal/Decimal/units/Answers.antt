use Rattle.std.proofs.Common.{rules, tests}
use Rattle.comtrade_values.proofs.decimal.Decimal.units.Goals as goal

pub returns-clause-value : goal.returns-clause-value
returns-clause-value c = search (tests, rules)
