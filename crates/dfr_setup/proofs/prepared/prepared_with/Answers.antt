use Rattle.dfr_setup.proofs.Prepares.{prepared_by}
use Rattle.dfr_setup.proofs.prepared.prepared_with.Goals as goal

pub returns : goal.returns
returns g c =
    let made = c.in_ok-detectors.ensures in
    prepared_by c.args.set_up (record { recorder = c.in_ok-recorder.recorder; inputs = c.args.inputs; plans = c.args.plans; detectors = c.in_ok-detectors.detectors })
    c.deref.result.now c.deref-2.result.now c.requires c.deref.ensures.value c.deref-2.ensures.value made.new made.works c.in_ok-recorder.ensures
