use Rattle.std.proofs.Common.{rules, tests}
use Rattle.dfr_program.specs.FaultTexts.{limit_word}
use Rattle.dfr_program.proofs.faults.limit_word.Goals as goal

pub returns-in-Pre : goal.returns-in-Pre
unfolding limit_word
returns-in-Pre c = search (tests, rules)
