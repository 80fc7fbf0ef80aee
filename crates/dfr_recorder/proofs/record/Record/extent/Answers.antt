use Rattle.std.proofs.Common.{rules, tests}
use Rattle.dfr_recorder.proofs.record.Record.extent.Goals as goal

pub returns-clause-value : goal.returns-clause-value
returns-clause-value g c = search (tests, rules)
