use Rattle.std.proofs.Common.{refl}
use Rattle.dfr_program.proofs.replay.print_fault.Goals as goal

pub returns-clause-none : goal.returns-clause-none
returns-clause-none g c = refl
