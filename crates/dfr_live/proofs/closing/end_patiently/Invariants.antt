use Rattle.std.proofs.Common.{◌≡◌}
use Rattle.dfr_live.proofs.closing.end_patiently.Given as goal

abbrev pub invariant-loop : goal.invariant-loop
invariant-loop g l =
    (goal.iterator-loop g).can_next l.iterator' × (goal.iterator-loop g).is_finite l.iterator'
    × (l.parts ≡ (l.fn.inner, l.fn.source, l.fn.tokens))
