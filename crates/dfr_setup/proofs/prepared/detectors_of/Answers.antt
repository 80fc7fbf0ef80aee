use Rattle.std.proofs.Common.{◌≡◌, ◌≤◌, ◌<◌, ◌∙◌, subst, ap, length, [], arith, rules}
use Rattle.std.proofs.lemmas.List.Elements.{All-more}
use Rattle.dfr_detect.specs.Lost.{Works}
use Rattle.dfr_setup.specs.Plans.{wanted_of}
use Rattle.dfr_setup.proofs.Moved.{map_push, fresh_of, all_made, all_work}
use Rattle.dfr_setup.proofs.prepared.detectors_of.Goals as goal

pub loop-plan-preserved : goal.loop-plan-preserved
loop-plan-preserved g c =
    let lt : c.loop-plan.plan-index < length c.args.plans.now = omega arith in
    let pushed = c.in_ok-push.ensures in
    let is : c.in_ok-detector_of.field-0 ≡ fresh_of c.plan-item.result = search rules in
    record {
      made = map_push fresh_of c.args.plans.now c.loop-plan.plan-index c.plan-item.result [] c.loop-plan.list.items _ c.in_ok-detector_of.field-0 lt c.loop-plan.invariant.made
          (is ∙ ap (λ p. fresh_of p) c.plan-item.is) pushed.items;
      works = All-more (λ p. Works (wanted_of p)) c.args.plans.now c.loop-plan.plan-index c.plan-item.result lt c.loop-plan.invariant.works
          (subst (λ p. Works (wanted_of p)) c.plan-item.is c.detector_of.ensures.works);
    }

pub returns-clause-new : goal.returns-clause-new
returns-clause-new g c =
    let all : length c.args.plans.now ≤ c.loop-plan.plan-index = omega arith in
    c.new.ensures ∙ all_made c.args.plans.now c.loop-plan.plan-index c.loop-plan.list.items all c.loop-plan.invariant.made

pub returns-clause-works : goal.returns-clause-works
returns-clause-works g c =
    let all : length c.args.plans.now ≤ c.loop-plan.plan-index = omega arith in
    all_work c.args.plans.now c.loop-plan.plan-index all c.loop-plan.invariant.works
