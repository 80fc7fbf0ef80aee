use Rattle.std.proofs.Common.{ℕ, sym, subst}
use Rattle.dfr_live.specs.Ends.{Ends, EachSeatOnce}
use Rattle.dfr_live.proofs.Seats.{has_tokens}
use Rattle.dfr_live.proofs.closing.end_patiently.Goals as goal

pub returns-in-Ok-clause-ended : goal.returns-in-Ok-clause-ended
returns-in-Ok-clause-ended g c = subst (λ p. Ends p.0 p.1 p.2.items c.in-Ok.ended) c.loop.invariant.2 c.in-Ok.ensures.ended

pub returns-in-Err-clause-fault : goal.returns-in-Err-clause-fault
returns-in-Err-clause-fault g c =
    let once : EachSeatOnce c.loop.parts.0.seats c.loop.parts.2.items =
    subst (λ (n : ℕ). EachSeatOnce n c.loop.parts.2.items) (sym c.in-Err.ensures.seats)
    (subst (λ p. EachSeatOnce g.N.Session.seats p.2.items) (sym c.loop.invariant.2) c.requires) in
    has_tokens c.loop.parts.0 c.loop.parts.2.items c.in-Err.fault once c.in-Err.ensures.fault
