use Rattle.dfr_program.proofs.Growing.{cut_some}
use Rattle.dfr_program.proofs.output.write_out.Goals as goal

pub returns-in-Ok-clause-all : goal.returns-in-Ok-clause-all
returns-in-Ok-clause-all g c = c.in-Ok.ensures.all

pub returns-in-Err-clause-part : goal.returns-in-Err-clause-part
returns-in-Err-clause-part g c = cut_some _ _ _ _ c.in-Err.ensures.left c.in-Err.ensures.part
