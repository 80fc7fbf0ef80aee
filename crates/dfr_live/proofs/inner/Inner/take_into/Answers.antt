use Rattle.std.proofs.Common.{rules, ◌≡◌, List, [], ◌∷◌, ◌++◌, Some, length, sym, ◌∙◌, ap, subst, take}
use Rattle.std.specs.Prelude.{option_to_list, IfSome, IsTrue}
use Rattle.dfr_channels.specs.Parts.{SetupParts}
use Rattle.dfr_recorder.specs.Parts.{RecordParts}
use Rattle.dfr_recorder.specs.Own.{is_own}
use Rattle.dfr_recorder.specs.History.{Opening}
use Rattle.dfr_recorder.specs.Kept.{Kept}
use Rattle.rtrb.specs.Ring.{received}
use Rattle.dfr_recorder.specs.Steps.{StepParts}
use Rattle.dfr_live.specs.Parts.{EntryParts}
use Rattle.dfr_live.specs.Parts as call
use Rattle.dfr_live.specs.declared.entry.Reply.TheVariants as reply_is
use Rattle.dfr_live.specs.Weave.{steps_of, extent_of, reply_of}
use Rattle.dfr_live.specs.Seen.{IsSound, InnerParts, history_of}
use Rattle.dfr_live.specs.Gone.{record_in, records_taken, Remembers}
use Rattle.dfr_live.proofs.Remembered.{more, no-more, so-called, follows, name-of}
use Rattle.dfr_live.proofs.Weaving.{sound-entry, took, called-on}
use Rattle.dfr_live.proofs.inner.Inner.take_into.Goals as goal

pub returns-clause-sound : goal.returns-clause-sound
returns-clause-sound g c =
    let i = c.self.invariant in
    let st : List StepParts = take c.self.inside.steps (steps_of (received c.self.inside.lane)) in
    let e : EntryParts = record { caller = c.token.inside.seat; at = c.self.inside.steps; call = call.Take; reply = reply_is.Take c.extent_in.result } in
    let made = c.take-record.ensures.step c.self.inside.opening (history_of st c.self.inside.log.items) i.4.is_kept in
    let items = c.note.ensures.log ∙ ap (λ (l : List EntryParts). l ++ e ∷ []) c.has_room.ensures.same.0 in
    subst (λ l. IsSound c.self.inside.opening st l c.take-record.new.self) (sym items)
    (sound-entry c.self.inside.opening st c.self.inside.log.items e c.self.inside.recorder c.take-record.new.self i.4 i.3 (ap reply_of made.0 ∙ ap (λ (x : _). Some (reply_is.Take x)) (sym c.extent_in.ensures)) made.1)

pub returns-clause-takes : goal.returns-clause-takes
returns-clause-takes g c =
    let i = c.self.invariant in
    let st : List StepParts = take c.self.inside.steps (steps_of (received c.self.inside.lane)) in
    let log = c.self.inside.log.items in
    let made = c.take-record.ensures.step c.self.inside.opening (history_of st log) i.4.is_kept in
    let e : EntryParts = record { caller = c.token.inside.seat; at = length st; call = call.Take; reply = reply_is.Take (extent_of c.take-record.result) } in
    let extent = c.extent_in.ensures in
    let mine : c.note.new.log.items ≡ log ++ e ∷ [] = cc (c.note.ensures.log, c.has_room.ensures.same.0, i.3, extent) in
    took _ _ _ _ _ _ c.take-record.result c.self.view_is c.token.view_is
    (called-on c.self.inside.opening (received c.self.inside.lane) st log c.note.new.log.items c.self.inside.recorder c.take-record.new.self (steps_of (option_to_list c.self.inside.first)) c.self.inside.seats e mine made.1)
    (cc (c.note.ensures.made, c.has_room.ensures.same.1, i.3, extent)) made.0

pub is_up_to-requires : goal.is_up_to-requires
is_up_to-requires g c = name-of g.N.Session.lane.gone _ c.self.inside.outbox c.self.invariant.6

pub invariant_of-self : goal.invariant_of-self
invariant_of-self g c =
    let i = c.self.invariant in
    (i.0, i.1, i.2, i.3, i.4, i.5, no-more g.N.Session.lane.gone _ c.self.inside.outbox c.is_up_to.new.outbox i.6 c.is_up_to.ensures.outbox)

pub invariant_of-self-then-not-has_room : goal.invariant_of-self-then-not-has_room
invariant_of-self-then-not-has_room g c =
    let i = c.self.invariant in
    let st : List StepParts = take c.self.inside.steps (steps_of (received c.self.inside.lane)) in
    let h = no-more g.N.Session.lane.gone _ c.self.inside.outbox c.is_up_to.new.outbox i.6 c.is_up_to.ensures.outbox in
    let same = sym c.has_room.ensures.same.0 in (
      i.0,
      i.1,
      i.2,
      i.3,
      subst (λ (l : List EntryParts). IsSound c.self.inside.opening st l c.self.inside.recorder) same i.4,
      i.5,
      subst (λ (l : List EntryParts). Remembers g.N.Session.lane.gone (records_taken c.self.inside.opening (history_of st l)) c.is_up_to.new.outbox) same h,
    )

pub invariant_of-self-then-not-is_ready : goal.invariant_of-self-then-not-is_ready
invariant_of-self-then-not-is_ready g c =
    let i = c.self.invariant in
    let st : List StepParts = take c.self.inside.steps (steps_of (received c.self.inside.lane)) in
    let h = no-more g.N.Session.lane.gone _ c.self.inside.outbox c.is_up_to.new.outbox i.6 c.is_up_to.ensures.outbox in
    let k = no-more g.N.Session.lane.gone _ c.is_up_to.new.outbox c.is_ready.new.self h c.is_ready.ensures.same in
    let same = sym c.has_room.ensures.same.0 in (
      i.0,
      i.1,
      i.2,
      i.3,
      subst (λ (l : List EntryParts). IsSound c.self.inside.opening st l c.self.inside.recorder) same i.4,
      i.5,
      subst (λ (l : List EntryParts). Remembers g.N.Session.lane.gone (records_taken c.self.inside.opening (history_of st l)) c.is_ready.new.self) same k,
    )

pub invariant_of-self-2 : goal.invariant_of-self-2
invariant_of-self-2 g c =
    let i = c.self.invariant in
    let o = c.self.inside.opening in
    let log = c.self.inside.log.items in
    let st : List StepParts = take c.self.inside.steps (steps_of (received c.self.inside.lane)) in
    let e : EntryParts = record { caller = c.token.inside.seat; at = c.self.inside.steps; call = call.Take; reply = reply_is.Take c.extent_in.result } in
    let made = c.take-record.ensures.step o (history_of st log) i.4.is_kept in
    let items = c.note.ensures.log ∙ ap (λ (l : List EntryParts). l ++ e ∷ []) c.has_room.ensures.same.0 in
    let h = no-more g.N.Session.lane.gone _ c.self.inside.outbox c.is_up_to.new.outbox i.6 c.is_up_to.ensures.outbox in
    let k = no-more g.N.Session.lane.gone _ c.is_up_to.new.outbox c.is_ready.new.self h c.is_ready.ensures.same in
    let noted = so-called g.N.Session.lane.gone o st log c.is_ready.new.self c.note.new.log.items e (option_to_list c.take-record.result) c.remember.new.self i.3 items (ap record_in made.0) c.remember.ensures k in (
      i.0,
      i.1,
      i.2,
      i.3,
      subst (λ l. IsSound o st l c.take-record.new.self) (sym items)
          (sound-entry o st log e c.self.inside.recorder c.take-record.new.self i.4 i.3 (ap reply_of made.0 ∙ ap (λ (x : _). Some (reply_is.Take x)) (sym c.extent_in.ensures)) made.1),
      i.5,
      no-more g.N.Session.lane.gone _ c.remember.new.self c.catch_up.new.outbox noted c.catch_up.ensures.outbox,
    )

pub returns-clause-gone : goal.returns-clause-gone
returns-clause-gone g c =
    follows c.args.gone.now c.is_up_to.new.self c.catch_up.new.self c.is_up_to.new.outbox c.is_ready.new.self c.remember.new.self c.take-record.result
    c.is_up_to.ensures.out (c.is_up_to.ensures.all (search rules)) c.is_ready.ensures.same c.remember.ensures c.catch_up.ensures.none c.catch_up.ensures.all

pub catch_up-requires : goal.catch_up-requires
catch_up-requires g c =
    let i = c.self.invariant in
    let o = c.self.inside.opening in
    let log = c.self.inside.log.items in
    let st : List StepParts = take c.self.inside.steps (steps_of (received c.self.inside.lane)) in
    let h = no-more g.N.Session.lane.gone _ c.self.inside.outbox c.is_up_to.new.outbox i.6 c.is_up_to.ensures.outbox in
    let k = no-more g.N.Session.lane.gone _ c.is_up_to.new.outbox c.is_ready.new.self h c.is_ready.ensures.same in
    name-of g.N.Session.lane.gone _ c.remember.new.self (more g.N.Session.lane.gone (records_taken o (history_of st log)) (option_to_list c.take-record.result) c.is_ready.new.self c.remember.new.self k c.remember.ensures)

pub returns-clause-own : goal.returns-clause-own
returns-clause-own g c =
    let kept-layout : c.self.inside.opening.layout ≡ c.self.inside.recorder.layout = ap (λ (k : Kept). k.layout) c.self.invariant.4.is_kept in
    let opened : c.self.inside.opening ≡ c.args.self.now.opening = ap (λ (x : InnerParts). x.opening) c.self.view_is in
    subst (λ (l : SetupParts). IfSome c.take-record.result (λ (r : RecordParts). IsTrue (is_own l r))) (sym kept-layout ∙ ap (λ (o : Opening). o.layout) opened) c.take-record.ensures.own
