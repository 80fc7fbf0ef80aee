use Rattle.std.proofs.Common.{rules, tests}
use Rattle.comtrade_values.specs.Fields.{free_bit}
use Rattle.comtrade_values.proofs.fields.free_bit_of.Goals as goal

pub returns-else-is_empty : goal.returns-else-is_empty
unfolding free_bit
returns-else-is_empty c = search (tests, rules)
