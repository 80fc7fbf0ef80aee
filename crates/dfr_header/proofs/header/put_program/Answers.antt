use Rattle.std.proofs.Common.{append_assoc}
use Rattle.dfr_header.specs.Headers.{program_text}
use Rattle.dfr_header.proofs.header.put_program.Goals as goal

pub returns : goal.returns
unfolding program_text
returns g c = rw (c.in_ok-end_line.ensures, c.in_ok-put-4.ensures, c.in_ok-put-3.ensures, c.in_ok-put-2.ensures, c.in_ok-put.ensures) (simp append_assoc)
