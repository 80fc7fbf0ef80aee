use Rattle.std.proofs.Common.{rules, tests}
use Rattle.comtrade_format.proofs.rows_binary.word_of.Goals as goal

pub returns-in-Missing : goal.returns-in-Missing
returns-in-Missing c = search (tests, rules)
