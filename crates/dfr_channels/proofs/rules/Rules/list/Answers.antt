use Rattle.std.proofs.Common.{rules, tests}
use Rattle.dfr_channels.proofs.rules.Rules.list.Goals as goal

pub returns-clause-value : goal.returns-clause-value
returns-clause-value g c = search (tests, rules)
