use Rattle.std.proofs.lemmas.Result.{IfOk-weaker}
use Rattle.dfr_program.proofs.read_back.read_of_run.Goals as goal

pub returns-clause-files : goal.returns-clause-files
returns-clause-files g c = IfOk-weaker c.read_of_answers.result _ _ (λ files h. cc) c.read_of_answers.ensures.files
