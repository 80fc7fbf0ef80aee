use Rattle.std.proofs.Common.{append_assoc}
use Rattle.dfr_health.proofs.trouble.put_system.Goals as goal

pub returns : goal.returns
returns g c = rw (c.in_ok-put_kind-3.ensures, c.in_ok-put_kind-2.ensures, c.in_ok-put_kind.ensures) (simp append_assoc)
