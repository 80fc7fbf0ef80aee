use Rattle.std.proofs.Common.{arith}
use Rattle.std.proofs.lemmas.Grind.{common_steps}
use Rattle.dfr_program.specs.ReadTexts.{channels_text}
use Rattle.dfr_program.proofs.reading.put_channels.Goals as goal

pub returns : goal.returns
unfolding channels_text
returns g c = grind (arith, common_steps)
