use Rattle.dfr_live.proofs.TakingIn.{GaveSoFar}
use Rattle.dfr_live.proofs.acquire.acquire.Given as goal

abbrev pub invariant-loop : goal.invariant-loop
invariant-loop g l =
    (goal.iterator-loop g).can_next l.iterator' × (goal.iterator-loop g).is_finite l.iterator'
    × GaveSoFar g.F.Intake.gives g.F.Intake.loses l.initial.feed l.feed l.source l.given
