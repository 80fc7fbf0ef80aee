use Rattle.std.proofs.Common.{rules, tests}
use Rattle.dfr_channels.proofs.rule.is_beyond.Goals as goal

pub returns-then-over : goal.returns-then-over
returns-then-over c = search (tests, rules)
