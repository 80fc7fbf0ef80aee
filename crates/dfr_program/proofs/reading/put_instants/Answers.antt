use Rattle.std.proofs.Common.{arith}
use Rattle.std.proofs.lemmas.Grind.{common_steps}
use Rattle.dfr_program.specs.ReadTexts.{instants_text}
use Rattle.dfr_program.proofs.reading.put_instants.Goals as goal

pub returns : goal.returns
unfolding instants_text
returns g c = grind (arith, common_steps)
