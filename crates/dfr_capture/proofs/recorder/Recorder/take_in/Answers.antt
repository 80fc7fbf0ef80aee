use Rattle.std.proofs.Common.{refl}
use Rattle.dfr_capture.proofs.recorder.Recorder.take_in.Goals as goal

pub returns : goal.returns
returns g c =
    rw (← c.self.view_is)
    (λ past k. let t = c.in_ok-take_frame.ensures past k.waits k.heard in (t.0, record { waits = t.1; heard = t.2 }, refl))
