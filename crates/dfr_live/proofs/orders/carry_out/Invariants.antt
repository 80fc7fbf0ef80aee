use Rattle.std.proofs.Common.{◌≡◌, ℕ}
use Rattle.std.specs.Prelude.{IfSome, is_some}
use Rattle.dfr_live.proofs.Placing.{MadeSoFar}
use Rattle.dfr_live.proofs.orders.carry_out.Given as goal

abbrev pub invariant-loop : goal.invariant-loop
invariant-loop g l =
    (goal.iterator-loop g).can_next l.iterator' × (goal.iterator-loop g).is_finite l.iterator'
    × (l.token.seat ≡ l.initial.token.seat)
    × IfSome l.turns.all (λ all. (all.of ≡ l.fn.signals.given.id) × (all.value ≡ l.token.pumped))
    × MadeSoFar g.O.Desk.asks g.O.Desk.hears l.initial.desk l.desk (is_some l.turns.all) l.token
