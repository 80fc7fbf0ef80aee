use Rattle.std.proofs.Common.{rules, tests}
use Rattle.dfr_recorder.proofs.refusals.refusal.Goals as goal

pub returns-in-Err-Range-clause-value : goal.returns-in-Err-Range-clause-value
returns-in-Err-Range-clause-value g c = search rules depth 1

pub returns-in-Err-Range-clause-early : goal.returns-in-Err-Range-clause-early
returns-in-Err-Range-clause-early g c = search rules depth 1

pub returns-in-None-clause-value : goal.returns-in-None-clause-value
returns-in-None-clause-value g c = search (tests, rules)

pub returns-in-None-clause-early : goal.returns-in-None-clause-early
returns-in-None-clause-early g c = search (tests, rules)
