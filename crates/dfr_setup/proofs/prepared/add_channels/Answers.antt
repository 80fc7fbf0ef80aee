use Rattle.std.proofs.Common.{◌≡◌, ◌<◌, ◌∙◌, ap, length, arith, rules}
use Rattle.dfr_setup.specs.Plans.{status_of}
use Rattle.dfr_setup.proofs.Moved.{map_push}
use Rattle.dfr_setup.proofs.prepared.add_channels.Goals as goal

pub loop-plan-preserved : goal.loop-plan-preserved
loop-plan-preserved g c =
    let lt : c.loop-plan.plan-index < length c.args.plans.now = omega arith in
    let pushed = c.in_ok-push.ensures in
    let is : c.in_ok-status.field-0 ≡ status_of c.plan-item.result = search rules in
    map_push status_of c.args.plans.now c.loop-plan.plan-index c.plan-item.result _ c.loop-plan.status.items _ c.in_ok-status.field-0 lt c.loop-plan.invariant
    (is ∙ ap (λ p. status_of p) c.plan-item.is) pushed.items
