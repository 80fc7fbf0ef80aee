use Rattle.std.proofs.Common.{arith}
use Rattle.std.proofs.lemmas.Grind.{common_steps}
use Rattle.comtrade_values.proofs.input.read_up_to.Goals as goal

pub returns-clause-long : goal.returns-clause-long
returns-clause-long g c = grind (arith, common_steps)
