use Rattle.std.proofs.Common.{rules, tests}
use Rattle.comtrade_format.proofs.checks.takes_row.Goals as goal

pub returns-then-takes_all : goal.returns-then-takes_all
returns-then-takes_all g c = search (tests, rules)

pub returns-else-takes_all : goal.returns-else-takes_all
returns-else-takes_all g c = search (tests, rules)
