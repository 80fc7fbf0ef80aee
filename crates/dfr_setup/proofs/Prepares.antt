-- A set-up file whose other lines are without a fault.
use Rattle.std.proofs.Common.{◌≡◌, inl, inr, List, ◌∙◌, sym, refl, ap, subst, [], map, Option, None, Ok, Err, Result}
use Rattle.std.specs.Prelude.{option_map, MatchResult}
use Rattle.std.specs.List.{All}
use Rattle.std.proofs.lemmas.Result.{MatchResult-weaker}
use Rattle.comtrade_values.specs.Faults.{◌or◌}
use Rattle.dfr_channels.specs.Setups.{setup_fault}
use Rattle.dfr_channels.specs.declared.setup.SetupFault.{SetupFault}
use Rattle.dfr_script.specs.Parts.{RecorderSetupParts}
use Rattle.dfr_detect.specs.Detection.{all_detected}
use Rattle.dfr_detect.specs.Lost.{Works}
use Rattle.dfr_script.specs.Recorders.{set_up_fault, IsMadeOf}
use Rattle.dfr_script.specs.declared.recorder.RecorderFault.{RecorderFault}
use Rattle.dfr_setup.specs.Plans.{PlanParts, wanted_of}
use Rattle.dfr_setup.specs.SetupFiles as spec
use Rattle.dfr_setup.specs.SetupFiles.{Said, Refuses, IsPrepared, IsPreparedOf, with_plans, detectors_fault, lines_fault, recorder_fault, fault_of}
use Rattle.dfr_setup.specs.declared.prepared.Prepared.{Prepared}
use Rattle.dfr_setup.specs.declared.refusal.SetupRefusal.{SetupRefusal}
use Rattle.dfr_setup.specs.declared.refusal.SetupRefusal.TheVariants as refusal

-- the set-up is prepared, or why it is refused
abbrev pub Told : {A : Type 0} → RecorderSetupParts → Said → Result (Prepared A) SetupRefusal → Type 0
Told s said r = MatchResult r (λ p. (fault_of s said ≡ None) × IsPreparedOf s said p) (Refuses (fault_of s said))

-- the channels of the input have no fault
no_inputs_fault : (s : RecorderSetupParts) (said : Said) → setup_fault s.setup ≡ None → fault_of s said ≡ detectors_fault s said
no_inputs_fault s said none = ap (λ (f : Option SetupFault). option_map refusal.Setup f or detectors_fault s said) none

told_ok : {A : Type 0} (s : RecorderSetupParts) (plans : List PlanParts) (r : Result (Prepared A) SetupRefusal) → setup_fault s.setup ≡ None
    → MatchResult r (λ p. (set_up_fault (with_plans s plans) ≡ None) × IsPrepared s plans p) (Refuses (recorder_fault (with_plans s plans))) → Told s (Ok plans) r
told_ok {A} s plans r none h =
    MatchResult-weaker r h
    (λ p x. (no_inputs_fault s (Ok plans) none ∙ ap (λ (f : Option RecorderFault). option_map spec.of_fault f) x.0, x.1))
    (λ e q. subst (λ f. Refuses f e) (sym (no_inputs_fault s (Ok plans) none)) q)

pub told : {A : Type 0} (s : RecorderSetupParts) (plans : List PlanParts) (said : Said) (r : Result (Prepared A) SetupRefusal) → setup_fault s.setup ≡ None → said ≡ Ok plans
    → MatchResult r (λ p. (set_up_fault (with_plans s plans) ≡ None) × IsPrepared s plans p) (Refuses (recorder_fault (with_plans s plans))) → Told s said r
told s plans said r none is h = subst (λ x. Told s x r) (sym is) (told_ok s plans r none h)

refused_by : (s : RecorderSetupParts) (said : Said) (e : SetupRefusal) → setup_fault s.setup ≡ None → Refuses (lines_fault said) e → Refuses (fault_of s said) e
refused_by s said e none (inl h) = inl h
refused_by s (Err f) e none (inr h) = inr (no_inputs_fault s (Err f) none ∙ h)
refused_by s (Ok plans) e none (inr h) = absurd cc

-- the lines of the detectors are refused
pub lines_refused : {A : Type 0} (s : RecorderSetupParts) (said : Said) (r : Result (Prepared A) SetupRefusal) (e : SetupRefusal) → r ≡ Err e
    → setup_fault s.setup ≡ None → Refuses (lines_fault said) e → Told s said r
lines_refused s said r e is none h = subst (λ x. Told s said x) (sym is) (refused_by s said e none h)

-- what was made of a set-up and plans
pub prepared_by : {A : Type 0} (s : RecorderSetupParts) (p : Prepared A) (ds rs : List PlanParts) → p.inputs ≡ s.setup → ds ≡ p.plans.items → rs ≡ p.plans.items
    → p.detectors ≡ all_detected (map wanted_of ds) [] → All Works (map wanted_of ds)
    → (set_up_fault (with_plans s rs) ≡ None) × IsMadeOf (with_plans s rs) p.recorder
    → (set_up_fault (with_plans s p.plans.items) ≡ None) × IsPrepared s p.plans.items p
prepared_by s p ds rs inputs same of detectors works made =
    let recorder = subst (λ (ps : List PlanParts). (set_up_fault (with_plans s ps) ≡ None) × IsMadeOf (with_plans s ps) p.recorder) of made in (
      recorder.0,
      record {
        recorder = recorder.1;
        inputs = inputs;
        plans = refl;
        detectors = subst (λ (ps : List PlanParts). p.detectors ≡ all_detected (map wanted_of ps) []) same detectors;
        works = subst (λ (ps : List PlanParts). All Works (map wanted_of ps)) same works;
      },
    )
