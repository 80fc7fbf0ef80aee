use Rattle.std.proofs.Common.{rules, tests}
use Rattle.comtrade_values.specs.Fields.{free_scale}
use Rattle.comtrade_values.proofs.fields.free_scale_of.Goals as goal

pub returns-then-is_empty : goal.returns-then-is_empty
unfolding free_scale
returns-then-is_empty c = search (tests, rules)
