use Rattle.std.proofs.Common.{rules, tests}
use Rattle.dfr_script.specs.Words.{is_silent}
use Rattle.dfr_script.proofs.line.is_silent.Goals as goal

pub returns-in-35 : goal.returns-in-35
unfolding is_silent
returns-in-35 c = search (tests, rules)
