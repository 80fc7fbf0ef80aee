use Rattle.std.proofs.Common.{◌∙◌}
use Rattle.dfr_program.proofs.ReadAgain.{reads_as}
use Rattle.dfr_program.proofs.read_back.read_of_record.Goals as goal

pub returns-in-Ok-read_of_file-clause-reads : goal.returns-in-Ok-read_of_file-clause-reads
returns-in-Ok-read_of_file-clause-reads g c =
    reads_as c.in-Ok-read_of_file.file c.args.layout.now c.args.taken.now c.args.kind (c.in-Ok-read_of_file.ensures.same ∙ c.in-Ok.ensures.answer.1) c.in-Ok-read_of_file.ensures.reads

pub returns-in-Ok-read_of_file-clause-file : goal.returns-in-Ok-read_of_file-clause-file
returns-in-Ok-read_of_file-clause-file g c = c.in-Ok-read_of_file.ensures.same ∙ c.in-Ok.ensures.answer.1
