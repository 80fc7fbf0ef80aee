use Rattle.std.proofs.Common.{append_assoc}
use Rattle.dfr_health.proofs.reasons.put_missing.Goals as goal

pub returns : goal.returns
returns g c = rw (c.in_ok-put_sample-4.ensures, c.in_ok-put_sample-3.ensures, c.in_ok-put_sample-2.ensures, c.in_ok-put_sample.ensures) (simp append_assoc)
