use Rattle.std.proofs.Common.{append_assoc}
use Rattle.dfr_health.proofs.metrics.put_seconds.Goals as goal

pub returns : goal.returns
returns g c =
    rw (c.in_ok-put-2.ensures, c.in_ok-put_padded.ensures, c.in_ok-put.ensures, c.in_ok-put_with.ensures, c.in_ok-put_sign.ensures, c.in_ok-put_labels.ensures, c.in_ok-put_head.ensures)
    (simp append_assoc)
