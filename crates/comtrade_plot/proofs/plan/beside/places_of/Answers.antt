use Rattle.std.proofs.Common.{arith}
use Rattle.std.proofs.lemmas.Grind.{common_steps}
use Rattle.std.proofs.lemmas.Slice.Zip.{all_zipped_more}
use Rattle.comtrade_plot.proofs.plan.beside.places_of.Goals as goal

pub loop-time-preserved : goal.loop-time-preserved
loop-time-preserved g c = grind (arith, common_steps, all_zipped_more)
