-- After a lost scan a detector keeps nothing of the scans before.
use Rattle.std.proofs.Common.{◌≡◌, ◌∙◌, sym, refl, ap, ℕ, ◌≤◌, List, [], ◌∷◌, length, Bool, true, false, cond, Option, None, arith}
use Rattle.std.specs.List.{All}
use Rattle.std.proofs.lemmas.List.Elements.{All-head, All-tail}
use Rattle.dfr_channels.specs.declared.scan.Reading.{Reading}
use Rattle.dfr_detect.specs.Detection.{Wanted, detected, detected_by, all_detected}
use Rattle.dfr_detect.specs.Lost.{Works}
use Rattle.dfr_detect.specs.Signals.{sum_of, sample_of, signal, has_phases, three, phase, one}
use Rattle.dfr_detect.specs.declared.sample.Sample.{Sample}
use Rattle.dfr_detect.specs.declared.settings.Condition.{Condition}
use Rattle.dfr_detect.specs.Watched.{kept}
use Rattle.dfr_detect.proofs.Steps.{of_none}

-- a lost scan gives no sample
no_sum : (channels : List ℕ) → 1 ≤ length channels → sum_of channels [] ≡ None
no_sum [] h = absurd (omega (arith, h))
no_sum (c ∷ cs) h = refl

no_phases : (channels : List ℕ) → 1 ≤ length channels → three (phase channels [] 0) (phase channels [] 1) (phase channels [] 2) ≡ None
no_phases [] h = absurd (omega (arith, h))
no_phases (c ∷ cs) h = refl

either : (b : Bool) (x y : Option Sample) → x ≡ None → y ≡ None → cond b x y ≡ None
either true x y p q = p
either false x y p q = q

no_sample : (condition : Condition) (channels : List ℕ) → 1 ≤ length channels → sample_of condition channels [] ≡ None
no_sample condition channels h = either (has_phases condition) _ _ (no_phases channels h) (ap one (no_sum channels h))

forgets_one : (w : Wanted) (old other : List (List Reading)) → Works w → detected w ([] ∷ old) ≡ detected w ([] ∷ other)
forgets_one w old other works =
    let condition = w.settings.condition in
    let none = no_sample condition w.channels works.some in
    ap (λ k. detected_by w.channels k) (
    ap (λ x. kept w.settings (x ∷ signal condition w.channels old)) none
    ∙ of_none w.settings (signal condition w.channels old) works.fits
    ∙ sym (of_none w.settings (signal condition w.channels other) works.fits)
    ∙ ap (λ x. kept w.settings (x ∷ signal condition w.channels other)) (sym none)
    )

pub forgets : (ws : List Wanted) (old other : List (List Reading)) → All Works ws → all_detected ws ([] ∷ old) ≡ all_detected ws ([] ∷ other)
forgets [] old other works = refl
forgets (w ∷ ws) old other works =
    ap (λ d. d ∷ all_detected ws ([] ∷ old)) (forgets_one w old other (All-head Works w ws works))
    ∙ ap (λ ds. detected w ([] ∷ other) ∷ ds) (forgets ws old other (All-tail Works w ws works))
