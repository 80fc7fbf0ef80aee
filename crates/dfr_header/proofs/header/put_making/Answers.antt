use Rattle.std.proofs.Common.{append_assoc}
use Rattle.dfr_header.specs.Headers.{making_text}
use Rattle.dfr_header.proofs.header.put_making.Goals as goal

pub returns : goal.returns
unfolding making_text
returns g c =
    rw (c.in_ok-put_rules.ensures, c.in_ok-end_line-2.ensures, c.in_ok-put_time.ensures, c.in_ok-end_line.ensures, c.in_ok-put_setup.ensures, ← c.header.view_is)
    (simp append_assoc)
