use Rattle.std.proofs.lemmas.List.Elements.{All-push}
use Rattle.dfr_capture.specs.Plans.{has_divisor}
use Rattle.dfr_plan.proofs.value.add_value.Goals as goal

pub invariant_of-draft-2 : goal.invariant_of-draft-2
invariant_of-draft-2 g c = record {
  few = c.draft.invariant.few;
  divided = rw c.in_ok-push.ensures.items (All-push has_divisor _ _ c.draft.invariant.divided c.in_ok-channel.ensures.bound);
}
