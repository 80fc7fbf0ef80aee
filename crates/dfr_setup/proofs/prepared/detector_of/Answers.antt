use Rattle.std.proofs.Common.{subst}
use Rattle.dfr_detect.specs.Lost.{Works}
use Rattle.dfr_setup.specs.Plans.{wanted_of}
use Rattle.dfr_setup.proofs.Moved.{works_of}
use Rattle.dfr_setup.proofs.prepared.detector_of.Goals as goal

pub returns-in_err-channels-clause-works : goal.returns-in_err-channels-clause-works
returns-in_err-channels-clause-works g c =
    let kept = c.plan.invariant in
    let p = c.plan.inside in
    subst (λ p. Works (wanted_of p)) c.plan.view_is
    (works_of (record { name = p.name; test = p.test; settings = p.settings; channels = p.channels; level = p.level; reset = p.reset; least = p.least }) kept.0 kept.1)

pub returns-clause-works : goal.returns-clause-works
returns-clause-works g c =
    let kept = c.plan.invariant in
    let p = c.plan.inside in
    subst (λ p. Works (wanted_of p)) c.plan.view_is
    (works_of (record { name = p.name; test = p.test; settings = p.settings; channels = p.channels; level = p.level; reset = p.reset; least = p.least }) kept.0 kept.1)
