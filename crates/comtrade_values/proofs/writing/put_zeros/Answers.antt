use Rattle.std.proofs.Common.{arith}
use Rattle.std.proofs.lemmas.Grind.{common_steps}
use Rattle.comtrade_values.proofs.Points.{repeat_more}
use Rattle.comtrade_values.proofs.writing.put_zeros.Goals as goal

pub loop-preserved : goal.loop-preserved
loop-preserved g c = grind (arith, common_steps, repeat_more)
