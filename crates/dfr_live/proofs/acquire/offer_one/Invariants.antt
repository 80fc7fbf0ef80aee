use Rattle.std.proofs.Common.{◌≡◌}
use Rattle.dfr_live.proofs.acquire.offer_one.Given as goal

abbrev pub invariant-loop : goal.invariant-loop
invariant-loop g l =
    (goal.iterator-loop g).can_next l.iterator' × (goal.iterator-loop g).is_finite l.iterator'
    × (l.scan ≡ l.fn.scan) × (l.source ≡ l.initial.source) × (l.feed ≡ l.initial.feed)
