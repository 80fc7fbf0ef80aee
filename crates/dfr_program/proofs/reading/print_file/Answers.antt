use Rattle.std.proofs.Common.{rules}
use Rattle.dfr_program.proofs.reading.print_file.Goals as goal

pub returns-clause-memory : goal.returns-clause-memory
returns-clause-memory g c = search rules depth 1
