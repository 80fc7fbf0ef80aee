use Rattle.std.proofs.Common.{rules, tests}
use Rattle.dfr_channels.proofs.layout.is_within.Goals as goal

pub returns-in-Missing : goal.returns-in-Missing
returns-in-Missing g c = search (tests, rules)
