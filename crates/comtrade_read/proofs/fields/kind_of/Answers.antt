use Rattle.std.proofs.Common.{arith, refl}
use Rattle.std.proofs.lemmas.Grind.{common_steps}
use Rattle.comtrade_read.proofs.fields.kind_of.Goals as goal

pub returns-in-None : goal.returns-in-None
returns-in-None c = (grind (arith, common_steps), refl)
