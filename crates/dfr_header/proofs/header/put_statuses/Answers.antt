use Rattle.std.proofs.Common.{refl}
use Rattle.dfr_header.specs.Headers.{statuses_text}
use Rattle.dfr_header.proofs.header.put_statuses.Goals as goal

pub returns : goal.returns
unfolding statuses_text
returns g c = rw (c.in_ok-put_number_line.ensures, c.status.ensures) refl
