use Rattle.std.proofs.Common.{◌-◌, ◌≡◌, ◌∙◌, sym, subst, suc, rules, Option, None, true, deque_capacity}
use Rattle.std.specs.Prelude.{is_some}
use Rattle.dfr_recorder.specs.Parts.{RecordParts}
use Rattle.dfr_recorder.specs.Kept.{kept_by}
use Rattle.dfr_recorder.specs.Sound.{IsSoundBody}
use Rattle.dfr_recorder.proofs.Body.{trigger_body, covered_body}
use Rattle.dfr_recorder.proofs.Told.{is_step}
use Rattle.dfr_recorder.proofs.Lawful.{sound_made}
use Rattle.dfr_recorder.proofs.Memory.{opens_law}
use Rattle.dfr_recorder.proofs.Runs.{ok_gives, err_gives}
use Rattle.dfr_recorder.proofs.recorder.Recorder.trigger.Goals as goal

pub returns-clause-step : goal.returns-clause-step
returns-clause-step g c not_memory =
    let n : c.self.inside.count ≡ suc (c.self.inside.count - 1) = search rules in
    let free = sym c.is_covered.ensures ∙ c.if-is_covered.false in
    let placed = ok_gives c.place.result (sym c.is_err.ensures.value ∙ c.if-is_err.false) c.place.ensures.ok in
    is_step _ _ _ _ (trigger_body _ _ _ _ _ _ _ c.self.view_is n c.met_by-met.ensures free c.mark-marked.ensures placed c.refused_when_full.ensures)

pub returns-then-is_covered-clause-step : goal.returns-then-is_covered-clause-step
returns-then-is_covered-clause-step g c _ =
    let n : c.self.inside.count ≡ suc (c.self.inside.count - 1) = search rules in
    is_step _ _ _ _ (covered_body _ _ _ _ c.self.view_is n c.met_by-met.ensures (sym c.is_covered.ensures ∙ c.if-is_covered.true))

pub invariant_of-self : goal.invariant_of-self
invariant_of-self g c =
    let same : c.place.new.recording ≡ c.self.inside.recording = err_gives c.place.result (sym c.is_err.ensures.value ∙ c.if-is_err.true) c.place.ensures.err in
    let P : Option RecordParts → Type 0 =
    λ r. IsSoundBody (kept_by c.self.inside.layout c.self.inside.limits c.self.inside.rules c.self.inside.count c.self.inside.ring.items c.self.inside.newest r c.self.inside.shelf.items) c.self.inside.ring.capacity (deque_capacity c.self.inside.shelf) in
    subst P (sym same) c.self.invariant

pub invariant_of-self-2 : goal.invariant_of-self-2
invariant_of-self-2 g c =
    let n : c.self.inside.count ≡ suc (c.self.inside.count - 1) = search rules in
    let free = sym c.is_covered.ensures ∙ c.if-is_covered.false in
    let placed = ok_gives c.place.result (sym c.is_err.ensures.value ∙ c.if-is_err.false) c.place.ensures.ok in
    record {
      sound = sound_made _ _ _ _ _ c.self.view_is (trigger_body _ _ _ _ _ _ _ c.self.view_is n c.met_by-met.ensures free c.mark-marked.ensures placed c.refused_when_full.ensures) c.self.invariant.sound;
      fit = c.self.invariant.fit;
      early = c.self.invariant.early;
      ring = c.self.invariant.ring;
      shelf = c.self.invariant.shelf;
    }

pub returns-then-is_err-clause-memory : goal.returns-then-is_err-clause-memory
returns-then-is_err-clause-memory g c _ =
    let n : c.self.inside.count ≡ suc (c.self.inside.count - 1) = search rules in
    let free = sym c.is_covered.ensures ∙ c.if-is_covered.false in
    let none : c.self.inside.recording ≡ None = (err_gives c.place.result (sym c.is_err.ensures.value ∙ c.if-is_err.true) c.place.ensures.free).0 in
    let some : is_some c.mark-marked.result.extent ≡ true = search rules in
    opens_law _ _ _ _ _ c.self.view_is n c.met_by-met.ensures free c.mark-marked.ensures none some
