use Rattle.std.proofs.Common.{rules, tests}
use Rattle.dfr_program.specs.Texts.{trigger_text}
use Rattle.dfr_program.proofs.answers.put_trigger.Goals as goal

pub returns-in-Err-Memory-clause-text : goal.returns-in-Err-Memory-clause-text
unfolding trigger_text
returns-in-Err-Memory-clause-text g c = search (tests, rules)

pub returns-in-Err-Memory-clause-named : goal.returns-in-Err-Memory-clause-named
unfolding trigger_text
returns-in-Err-Memory-clause-named g c = search (tests, rules)
