use Rattle.std.proofs.Common.{refl}
use Rattle.dfr_header.specs.Headers.{analogs_text}
use Rattle.dfr_header.proofs.header.put_analogs.Goals as goal

pub returns : goal.returns
unfolding analogs_text
returns g c = rw (c.in_ok-put_number_line.ensures, c.analog.ensures) refl
