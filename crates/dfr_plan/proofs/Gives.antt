-- What the plan of lines gives.
use Rattle.std.proofs.Common.{◌≡◌, ◌∙◌, refl, sym, ap, subst, inl, inr, ℕ, List, Ok, Err, Result}
use Rattle.dfr_channels.specs.Parts.{SetupParts}
use Rattle.dfr_capture.specs.Plans.{PlanParts}
use Rattle.dfr_plan.specs.Drafts.{DraftParts}
use Rattle.dfr_plan.specs.Plans.{said, planned, finished, of_lines, refusal_at, Gives}
use Rattle.dfr_plan.specs.declared.fault.PlanFault.{PlanFault}
use Rattle.dfr_plan.specs.declared.fault.PlanRefusal.{PlanRefusal}
use Rattle.dfr_plan.specs.declared.fault.LineRefusal.{LineRefusal}
use Rattle.dfr_plan.specs.declared.fault.LineRefusal.TheVariants.{Fault, Memory}

same_given : (x r : Result PlanParts PlanRefusal) → x ≡ r → Gives x r
same_given x (Ok p) e = e
same_given x (Err q) e = inr e

pub plan_given : (s : SetupParts) (text : List ℕ) (d : DraftParts) (r : Result PlanParts PlanRefusal)
    → said s text ≡ Ok d → r ≡ finished s d → Gives (planned s text) r
plan_given s text d r e f = same_given (planned s text) r (ap (λ x. of_lines s x) e ∙ sym f)

refused_by : (s : SetupParts) (text : List ℕ) (n : ℕ) (k : LineRefusal)
    → ((w : PlanFault) → k ≡ Fault w → said s text ≡ Err (n, w)) → Gives (planned s text) (Err (refusal_at n k))
refused_by s text n (Fault f) h = inr (ap (λ x. of_lines s x) (h f refl))
refused_by s text n Memory h = inl refl

pub refused_given : (s : SetupParts) (text : List ℕ) (e : ℕ × LineRefusal) (r : PlanRefusal)
    → ((w : PlanFault) → e.1 ≡ Fault w → said s text ≡ Err (e.0, w)) → r ≡ refusal_at e.0 e.1 → Gives (planned s text) (Err r)
refused_given s text e r h is = subst (λ (x : PlanRefusal). Gives (planned s text) (Err x)) (sym is) (refused_by s text e.0 e.1 h)
