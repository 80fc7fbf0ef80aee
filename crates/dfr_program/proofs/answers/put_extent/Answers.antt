use Rattle.std.proofs.Common.{arith}
use Rattle.std.proofs.lemmas.Grind.{common_steps}
use Rattle.dfr_program.specs.Texts.{extent_text}
use Rattle.dfr_program.proofs.answers.put_extent.Goals as goal

pub returns : goal.returns
unfolding extent_text
returns g c = grind (arith, common_steps)
