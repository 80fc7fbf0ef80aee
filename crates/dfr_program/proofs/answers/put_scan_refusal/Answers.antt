use Rattle.std.proofs.Common.{rules, tests}
use Rattle.dfr_program.specs.Texts.{scan_refusal_text}
use Rattle.dfr_program.proofs.answers.put_scan_refusal.Goals as goal

pub returns-in-Memory-clause-text : goal.returns-in-Memory-clause-text
unfolding scan_refusal_text
returns-in-Memory-clause-text g c = search (tests, rules)

pub returns-in-Memory-clause-named : goal.returns-in-Memory-clause-named
unfolding scan_refusal_text
returns-in-Memory-clause-named g c = search (tests, rules)
