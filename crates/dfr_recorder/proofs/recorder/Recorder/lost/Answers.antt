use Rattle.std.proofs.Common.{◌≡◌, sym, None, rules}
use Rattle.dfr_recorder.specs.History.{lost_refusal}
use Rattle.dfr_recorder.proofs.Memory.{adds_law}
use Rattle.dfr_recorder.proofs.Sound.{lost_taken_in}
use Rattle.dfr_recorder.proofs.Body.{lost_body}
use Rattle.dfr_recorder.proofs.Told.{is_step}
use Rattle.dfr_recorder.proofs.recorder.Recorder.lost.Goals as goal

pub accept-requires-clause-fits : goal.accept-requires-clause-fits
accept-requires-clause-fits g c =
    let no : lost_refusal c.self.inside.layout c.self.inside.count ≡ None = sym c.in-None.ensures.value in
    lost_taken_in _ _ _ c.self.view_is c.self.invariant.sound no c.in-Ok.ensures

pub returns-clause-step : goal.returns-clause-step
returns-clause-step g c _ =
    let no : lost_refusal c.self.inside.layout c.self.inside.count ≡ None = sym c.in-None.ensures.value in
    is_step _ _ _ _ (lost_body _ _ _ _ _ c.self.view_is no c.in-Ok.ensures c.in-Ok-accept.ensures.ok)

pub returns-in_default-accept-clause-memory : goal.returns-in_default-accept-clause-memory
returns-in_default-accept-clause-memory g c _ =
    let no : lost_refusal c.self.inside.layout c.self.inside.count ≡ None = sym c.in-None.ensures.value in
    adds_law _ _ c.self.view_is no

pub returns-in-Some-clause-memory : goal.returns-in-Some-clause-memory
returns-in-Some-clause-memory g c = search rules depth 1
