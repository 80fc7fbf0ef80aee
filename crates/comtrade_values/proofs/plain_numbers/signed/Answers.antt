use Rattle.std.proofs.Common.{rules, tests}
use Rattle.comtrade_values.proofs.plain_numbers.signed.Goals as goal

pub returns-then-minus-clause-value : goal.returns-then-minus-clause-value
returns-then-minus-clause-value c = search (tests, rules)

pub returns-else-minus-clause-value : goal.returns-else-minus-clause-value
returns-else-minus-clause-value c = search (tests, rules)
