use Rattle.std.proofs.Common.{ℕ, ◌+◌, ◌≡◌, [], ◌∷◌, ◌++◌, arith, ap, ◌∙◌, None}
use Rattle.dfr_recorder.specs.Kept.{Kept, latest, leaving}
use Rattle.dfr_recorder.proofs.Body.{idle_body}
use Rattle.dfr_recorder.proofs.Lawful.{sound_taken_in}
use Rattle.dfr_recorder.proofs.recorder.Recorder.pass.Goals as goal

pub invariant_of-self : goal.invariant_of-self
invariant_of-self g c =
    let ring : c.keep.new.ring.items ≡ latest (c.self.inside.limits.pre + 1) (c.self.inside.ring.items ++ c.args.scan ∷ []) = c.keep.ensures.items ∙ ap (λ (m : ℕ). latest m (c.self.inside.ring.items ++ c.args.scan ∷ [])) c.self.invariant.ring in
    let made = idle_body _ _ _ _ c.self.view_is (ap (λ (k : Kept). k.recording) c.self.view_is ∙ c.requires.idle) ring in
    record {
      sound = sound_taken_in _ _ _ None _ _ c.self.view_is c.requires.fits made c.self.invariant.sound;
      fit = c.self.invariant.fit;
      early = omega (arith, c.requires.early, ap (λ (k : Kept). k.scans) c.self.view_is);
      ring = c.keep.ensures.places ∙ c.self.invariant.ring;
      shelf = c.self.invariant.shelf;
    }

pub returns-clause-accepted : goal.returns-clause-accepted
returns-clause-accepted g c =
    let ring : c.keep.new.ring.items ≡ latest (c.self.inside.limits.pre + 1) (c.self.inside.ring.items ++ c.args.scan ∷ []) = c.keep.ensures.items ∙ ap (λ (m : ℕ). latest m (c.self.inside.ring.items ++ c.args.scan ∷ [])) c.self.invariant.ring in
    idle_body _ _ _ _ c.self.view_is (ap (λ (k : Kept). k.recording) c.self.view_is ∙ c.requires.idle) ring

pub returns-clause-leaves : goal.returns-clause-leaves
returns-clause-leaves g c = rw (c.self.invariant.ring) at c.keep.ensures.leaves ∙ ap (λ (k : Kept). leaving k c.args.scan) c.self.view_is
