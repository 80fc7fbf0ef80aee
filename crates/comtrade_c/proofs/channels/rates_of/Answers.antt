use Rattle.std.proofs.Common.{arith}
use Rattle.std.proofs.lemmas.Grind.{common_steps}
use Rattle.std.proofs.lemmas.Slice.Zip.{all_zipped_more}
use Rattle.comtrade_c.proofs.channels.rates_of.Goals as goal

pub loop-rate-preserved : goal.loop-rate-preserved
loop-rate-preserved c = grind (arith, common_steps, all_zipped_more)
