use Rattle.std.proofs.Common.{arith}
use Rattle.std.proofs.lemmas.Grind.{common_steps}
use Rattle.comtrade_c.proofs.texts.texts_of.Goals as goal

pub loop-analog-preserved : goal.loop-analog-preserved
loop-analog-preserved c = grind (arith, common_steps)

pub loop-status-preserved : goal.loop-status-preserved
loop-status-preserved c = grind (arith, common_steps)
