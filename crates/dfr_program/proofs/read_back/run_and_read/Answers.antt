use Rattle.std.proofs.Common.{rules}
use Rattle.std.proofs.lemmas.Result.{IfOk-weaker}
use Rattle.dfr_program.proofs.ReadAgain.{no_step}
use Rattle.dfr_program.proofs.read_back.run_and_read.Goals as goal

-- (`no_step` is there for a body that makes none: that is refused for the clause `whole` alone)
pub returns-clause-run : goal.returns-clause-run
returns-clause-run g c = search (rules, no_step)

pub returns-clause-files : goal.returns-clause-files
returns-clause-files g c = IfOk-weaker c.read_of_run-files.result _ _ (λ files h. cc) c.read_of_run-files.ensures.files

pub returns-clause-reads : goal.returns-clause-reads
returns-clause-reads g c = c.read_of_run-files.ensures.reads

pub returns-clause-whole : goal.returns-clause-whole
returns-clause-whole g c = search rules depth 1
