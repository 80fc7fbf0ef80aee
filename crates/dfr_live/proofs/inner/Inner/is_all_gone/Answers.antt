use Rattle.std.proofs.Common.{List, Option, subst, take}
use Rattle.std.specs.Prelude.{◌≡◌, IfSome}
use Rattle.rtrb.specs.Ring.{received}
use Rattle.dfr_recorder.specs.Parts.{RecordParts}
use Rattle.dfr_recorder.specs.Steps.{StepParts}
use Rattle.dfr_recorder.specs.History.{Opening}
use Rattle.dfr_live.specs.Weave.{steps_of}
use Rattle.dfr_live.specs.Seen.{InnerParts, history, history_of}
use Rattle.dfr_live.specs.Gone.{records_taken}
use Rattle.dfr_live.proofs.Remembered.{no-more, all-gone, name-of}
use Rattle.dfr_live.proofs.inner.Inner.is_all_gone.Goals as goal

pub is_up_to-requires : goal.is_up_to-requires
is_up_to-requires g c = name-of g.N.Session.lane.gone _ c.self.inside.outbox c.self.invariant.6

pub invariant_of-self : goal.invariant_of-self
invariant_of-self g c =
    let i = c.self.invariant in
    (i.0, i.1, i.2, i.3, i.4, i.5, no-more g.N.Session.lane.gone _ c.self.inside.outbox c.is_up_to.new.outbox i.6 c.is_up_to.ensures.outbox)

pub returns-clause-all : goal.returns-clause-all
returns-clause-all g c = λ yes.
    let i = c.self.invariant in
    let log = c.self.inside.log.items in
    let st : List StepParts = take c.self.inside.steps (steps_of (received c.self.inside.lane)) in
    let h = no-more g.N.Session.lane.gone _ c.self.inside.outbox c.is_up_to.new.outbox i.6 c.is_up_to.ensures.outbox in
    let is = all-gone g.N.Session.lane.gone _ c.is_up_to.new.outbox c.is_up_to.new.self h (c.is_up_to.ensures.all yes) in
    subst (λ (x : InnerParts). IfSome c.args.gone.now (λ (out : List RecordParts). out ≡ records_taken g.N.Session.opening (history x))) c.self.view_is
    (subst (λ (o : Opening). IfSome c.args.gone.now (λ (out : List RecordParts). out ≡ records_taken o (history_of st log))) i.0
    (subst (λ (v : Option (List RecordParts)). IfSome v (λ (out : List RecordParts). out ≡ records_taken c.self.inside.opening (history_of st log))) c.is_up_to.ensures.out is))
