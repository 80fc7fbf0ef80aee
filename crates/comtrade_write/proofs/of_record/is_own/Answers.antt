use Rattle.std.proofs.Common.{rules, tests}
use Rattle.dfr_recorder.specs.Own.{is_own}
use Rattle.comtrade_write.proofs.of_record.is_own.Goals as goal

pub returns-then-not-has_instant : goal.returns-then-not-has_instant
unfolding is_own
returns-then-not-has_instant g c = search (tests, rules)

pub returns : goal.returns
unfolding is_own
returns g c = search (tests, rules)
