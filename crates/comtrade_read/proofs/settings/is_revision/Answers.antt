use Rattle.std.proofs.Common.{rules, tests}
use Rattle.comtrade_read.specs.Fields.{whole}
use Rattle.comtrade_read.proofs.settings.is_revision.Goals as goal

pub returns : goal.returns
unfolding whole
returns c = search (tests, rules)
