use Rattle.std.proofs.Common.{rules, tests}
use Rattle.comtrade_write.proofs.of_record.has_stamps.Goals as goal

pub returns : goal.returns
returns g c = search (tests, rules)
