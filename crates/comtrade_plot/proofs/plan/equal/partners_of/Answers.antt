use Rattle.std.proofs.Common.{arith}
use Rattle.std.proofs.lemmas.Grind.{common_steps}
use Rattle.std.proofs.lemmas.Slice.Zip.{all_zipped_more}
use Rattle.comtrade_plot.proofs.plan.equal.partners_of.Goals as goal

pub loop-one-preserved : goal.loop-one-preserved
loop-one-preserved g c = grind (arith, common_steps, all_zipped_more)
