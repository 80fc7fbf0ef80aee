use Rattle.std.proofs.Common.{append_assoc}
use Rattle.dfr_header.specs.Headers.{setup_text}
use Rattle.dfr_header.proofs.header.put_setup.Goals as goal

pub returns : goal.returns
unfolding setup_text
returns g c =
    rw (c.in_ok-put_kind.ensures, c.in_ok-put_statuses.ensures, c.in_ok-put_analogs.ensures, c.in_ok-put_frequency.ensures, c.in_ok-put_rate.ensures, ← c.header.view_is)
    (simp append_assoc)
