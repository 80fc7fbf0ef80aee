use Rattle.std.proofs.Common.{◌≡◌, None, Ok, Err, subst, rules}
use Rattle.dfr_channels.specs.Setups.{setup_fault}
use Rattle.dfr_script.specs.Parts.{RecorderSetupParts}
use Rattle.dfr_setup.specs.SetupFiles.{Refuses, lines_fault, said_of}
use Rattle.dfr_setup.proofs.Prepares.{told, lines_refused}
use Rattle.dfr_setup.proofs.prepared.prepared_over.Goals as goal

pub returns-in_err-plans : goal.returns-in_err-plans
returns-in_err-plans g c =
    let is : c.from_residual-in_err-plans.result ≡ Err c.in_err-plans.field-0.0 = search rules in
    let inputs = c.in_ok-inputs.ensures in
    lines_refused c.args.set_up (said_of c.args.set_up c.args.text.now) _ _ is
    (subst (λ (s : RecorderSetupParts). setup_fault s.setup ≡ None) c.set_up.view_is inputs.0)
    (subst (λ (s : RecorderSetupParts). Refuses (lines_fault (said_of s c.args.text.now)) c.in_err-plans.field-0.0) c.set_up.view_is c.in_err-plans.ensures)

pub returns : goal.returns
returns g c =
    let inputs = c.in_ok-inputs.ensures in
    told c.args.set_up c.in_ok-plans.plans.items (said_of c.args.set_up c.args.text.now) _
    (subst (λ (s : RecorderSetupParts). setup_fault s.setup ≡ None) c.set_up.view_is inputs.0)
    (subst (λ (s : RecorderSetupParts). said_of s c.args.text.now ≡ Ok c.in_ok-plans.plans.items) c.set_up.view_is c.in_ok-plans.ensures)
    c.prepared_with.ensures
