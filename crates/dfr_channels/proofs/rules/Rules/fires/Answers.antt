use Rattle.std.proofs.Common.{rules, tests}
use Rattle.dfr_channels.proofs.rules.Rules.fires.Goals as goal

pub returns-in-Some : goal.returns-in-Some
returns-in-Some g c = search (tests, rules)
