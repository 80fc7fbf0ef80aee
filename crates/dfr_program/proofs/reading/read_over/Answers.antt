use Rattle.dfr_program.proofs.Pairing.{file_cut, fault_printed}
use Rattle.dfr_program.proofs.reading.read_over.Goals as goal

pub returns-in-Ok-clause-output : goal.returns-in-Ok-clause-output
returns-in-Ok-clause-output g c e =
    file_cut c.args.cfg.now c.args.dat.now _ _ _ c.in-Ok.ensures.found (c.print_file.ensures.output e)

pub returns-in-Err-clause-printed : goal.returns-in-Err-clause-printed
returns-in-Err-clause-printed g c =
    fault_printed c.print_read_fault.result c.args.cfg.now c.args.dat.now c.in-Err.part c.in-Err.fault _ _ c.in-Err.ensures.fault c.in-Err.ensures.unread c.print_read_fault.ensures.text c.print_read_fault.ensures.none
