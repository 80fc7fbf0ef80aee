use Rattle.std.proofs.Common.{refl}
use Rattle.dfr_program.proofs.reading.print_read_fault.Goals as goal

pub returns-clause-none : goal.returns-clause-none
returns-clause-none g c = (refl, c.in_ok-put_read_fault.ensures.named)
