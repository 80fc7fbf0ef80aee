use Rattle.std.proofs.Common.{rules, tests}
use Rattle.comtrade_read.specs.Ascii.{stamp}
use Rattle.comtrade_read.proofs.ascii.stamp_of.Goals as goal

pub returns-then-is_empty : goal.returns-then-is_empty
unfolding stamp
returns-then-is_empty c = search (tests, rules)
