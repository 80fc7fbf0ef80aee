use Rattle.std.proofs.Common.{ℕ, ◌+◌, ◌<◌, ◌≡◌, [], ◌∷◌, ◌++◌, true, length, arith, ap, subst, sym, ◌∙◌, Option, rules, deque_len, deque_capacity}
use Rattle.std.specs.Prelude.{IfSome, is_some}
use Rattle.dfr_recorder.specs.Parts.{RecordParts}
use Rattle.dfr_recorder.specs.Kept.{Kept, kept_by, latest, leaving}
use Rattle.dfr_recorder.specs.Sound.{IsSoundBody}
use Rattle.dfr_recorder.proofs.Memory.{finds_law}
use Rattle.dfr_recorder.proofs.Runs.{ok_gives, err_gives}
use Rattle.dfr_recorder.proofs.Body.{accept_body}
use Rattle.dfr_recorder.proofs.Lawful.{sound_taken_in}
use Rattle.dfr_recorder.proofs.Sound.{closes}
use Rattle.dfr_recorder.proofs.recorder.Recorder.record.Goals as goal

pub returns-then-is_err-clause-memory : goal.returns-then-is_err-clause-memory
returns-then-is_err-clause-memory g c =
    let some : is_some c.mark_if-marked.result.extent ≡ true = search rules in
    finds_law _ _ _ _ _ c.self.view_is c.met_by-met.ensures c.mark_if-marked.ensures some

pub invariant_of-self : goal.invariant_of-self
invariant_of-self g c =
    let same : c.grow.new.recording ≡ c.self.inside.recording = err_gives c.grow.result (sym c.is_err.ensures.value ∙ c.if-is_err.true) c.grow.ensures.err in
    let P : Option RecordParts → Type 0 =
    λ r. IsSoundBody (kept_by c.self.inside.layout c.self.inside.limits c.self.inside.rules c.self.inside.count c.self.inside.ring.items c.self.inside.newest r c.self.inside.shelf.items) c.self.inside.ring.capacity (deque_capacity c.self.inside.shelf) in
    subst P (sym same) c.self.invariant

pub shelve-requires-clause-room : goal.shelve-requires-clause-room
shelve-requires-clause-room g c =
    let grown = ok_gives c.grow.result (sym c.is_err.ensures.value ∙ c.if-is_err.false) c.grow.ensures.ok in
    let waiting : length c.self.inside.shelf.items ≡ deque_len c.self.inside.shelf = search rules in
    let P : ℕ → Type 0 = λ n. IfSome c.grow.new.recording (λ r. n < deque_capacity c.self.inside.shelf) in
    subst P waiting (closes _ _ _ _ _ _ _ _ c.self.view_is c.met_by-met.ensures c.mark_if-marked.ensures grown c.self.invariant.shelf c.self.invariant.sound).1

pub shelve-requires-clause-whole : goal.shelve-requires-clause-whole
shelve-requires-clause-whole g c =
    let grown = ok_gives c.grow.result (sym c.is_err.ensures.value ∙ c.if-is_err.false) c.grow.ensures.ok in
    (closes _ _ _ _ _ _ _ _ c.self.view_is c.met_by-met.ensures c.mark_if-marked.ensures grown c.self.invariant.shelf c.self.invariant.sound).0

pub invariant_of-self-2 : goal.invariant_of-self-2
invariant_of-self-2 g c =
    let grown = ok_gives c.grow.result (sym c.is_err.ensures.value ∙ c.if-is_err.false) c.grow.ensures.ok in
    let ring : c.keep.new.ring.items ≡ latest (c.self.inside.limits.pre + 1) (c.self.inside.ring.items ++ c.args.scan ∷ []) = c.keep.ensures.items ∙ ap (λ (m : ℕ). latest m (c.self.inside.ring.items ++ c.args.scan ∷ [])) c.self.invariant.ring in
    let made = accept_body _ _ _ _ _ _ _ _ _ _ _ c.self.view_is c.met_by-met.ensures c.mark_if-marked.ensures grown c.shelve.ensures.going_on c.shelve.ensures.shelf ring c.scanned.ensures in
    record {
      sound = sound_taken_in _ _ _ _ _ _ c.self.view_is c.requires.fits made c.self.invariant.sound;
      fit = c.self.invariant.fit;
      early = omega (arith, c.requires.early, ap (λ (k : Kept). k.scans) c.self.view_is);
      ring = c.keep.ensures.places ∙ c.self.invariant.ring;
      shelf = omega (arith, c.shelve.ensures.room, c.self.invariant.shelf);
    }

pub returns-clause-ok : goal.returns-clause-ok
returns-clause-ok g c =
    let grown = ok_gives c.grow.result (sym c.is_err.ensures.value ∙ c.if-is_err.false) c.grow.ensures.ok in
    let ring : c.keep.new.ring.items ≡ latest (c.self.inside.limits.pre + 1) (c.self.inside.ring.items ++ c.args.scan ∷ []) = c.keep.ensures.items ∙ ap (λ (m : ℕ). latest m (c.self.inside.ring.items ++ c.args.scan ∷ [])) c.self.invariant.ring in
    accept_body _ _ _ _ _ _ _ _ _ _ _ c.self.view_is c.met_by-met.ensures c.mark_if-marked.ensures grown c.shelve.ensures.going_on c.shelve.ensures.shelf ring c.scanned.ensures

pub returns-clause-leaves : goal.returns-clause-leaves
returns-clause-leaves g c = rw (c.self.invariant.ring) at c.keep.ensures.leaves ∙ ap (λ (k : Kept). leaving k c.args.scan) c.self.view_is
