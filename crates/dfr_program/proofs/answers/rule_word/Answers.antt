use Rattle.std.proofs.Common.{rules, tests}
use Rattle.dfr_program.specs.FaultTexts.{rule_word}
use Rattle.dfr_program.proofs.answers.rule_word.Goals as goal

pub returns-in-TooMany : goal.returns-in-TooMany
unfolding rule_word
returns-in-TooMany c = search (tests, rules)
