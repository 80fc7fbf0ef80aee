-- Commands that a live run is given, one after the other.
use Rattle.std.proofs.Common.{◌≡◌, refl, ℕ, suc, ◌+◌, List, [], ◌∷◌, ◌++◌, length, Option, Some, None, Result, Ok, Err, sym, ap, ◌∙◌, subst, append_assoc, arith}
use Rattle.std.specs.Prelude.{option_map, MatchResult}
use Rattle.std.proofs.lemmas.List.{append-nil}
use Rattle.comtrade_values.specs.Faults.{◌or◌}
use Rattle.dfr_channels.specs.Parts.{SetupParts}
use Rattle.dfr_recorder.specs.Steps.{StepParts}
use Rattle.dfr_script.specs.Parts.{CommandParts}
use Rattle.dfr_live.specs.Parts.{CallParts}
use Rattle.dfr_program.specs.declared.prepared.Fault.TheVariants as faults
use Rattle.dfr_program.specs.declared.prepared.Refusal.{Refusal}
use Rattle.dfr_program.specs.declared.prepared.Refusal.TheVariants as refusals
use Rattle.dfr_program.specs.Faults.{Refuses}
use Rattle.dfr_program.specs.Plans.{refused_line, refused_in, scan_in, order_in, scans_in, orders_in, IsPlanned}

err_same : {U : Type 0} (r : Result U Refusal) (d e : Refusal) → r ≡ Err d → r ≡ Err e → d ≡ e
err_same r d e f g = cc

none_or : {X : Type 0} (a b : Option X) → a ≡ None → (a or b) ≡ b
none_or None b e = refl
none_or (Some x) b e = absurd cc

none_first : {X : Type 0} (a b : Option X) → (a or b) ≡ None → a ≡ None
none_first None b e = refl
none_first (Some x) b e = absurd cc

none_second : {X : Type 0} (a b : Option X) → (a or b) ≡ None → b ≡ None
none_second None b e = e
none_second (Some x) b e = absurd cc

-- commands after others whose rules fit
refused_both : (layout : SetupParts) (xs ys : List CommandParts) → refused_in layout xs ≡ None → refused_in layout (xs ++ ys) ≡ refused_in layout ys
unfolding refused_in
refused_both layout [] ys e = refl
refused_both layout (x ∷ xs) ys e =
    none_or (refused_line layout x) (refused_in layout (xs ++ ys)) (none_first (refused_line layout x) (refused_in layout xs) e)
    ∙ refused_both layout xs ys (none_second (refused_line layout x) (refused_in layout xs) e)

refused_one : (layout : SetupParts) (c : CommandParts) → refused_in layout (c ∷ []) ≡ (refused_line layout c or None)
unfolding refused_in
refused_one layout c = refl

refused_more : (layout : SetupParts) (c : CommandParts) (cs : List CommandParts) → refused_in layout (c ∷ cs) ≡ (refused_line layout c or refused_in layout cs)
unfolding refused_in
refused_more layout c cs = refl

scans_push : (cs : List CommandParts) (c : CommandParts) → scans_in (cs ++ (c ∷ [])) ≡ scans_in cs ++ scan_in c
unfolding scans_in
scans_push [] c = append-nil (scan_in c)
scans_push (d ∷ cs) c = ap (λ v. scan_in d ++ v) (scans_push cs c) ∙ sym (append_assoc (scan_in d) (scans_in cs) (scan_in c))

sums : (n : ℕ) (xs ys : List StepParts) → (n + length xs) + length ys ≡ n + length (xs ++ ys)
sums n [] ys = omega arith
sums n (x ∷ xs) ys = omega arith ∙ sums (suc n) xs ys ∙ omega arith

orders_push : (n : ℕ) (cs : List CommandParts) (c : CommandParts) → orders_in n (cs ++ (c ∷ [])) ≡ orders_in n cs ++ order_in (n + length (scans_in cs)) c
unfolding scans_in orders_in
orders_push n [] c = append-nil (order_in n c) ∙ ap (λ k. order_in k c) (omega arith)
orders_push n (d ∷ cs) c =
    ap (λ v. order_in n d ++ v) (orders_push (n + length (scan_in d)) cs c)
    ∙ sym (append_assoc (order_in n d) (orders_in (n + length (scan_in d)) cs) (order_in ((n + length (scan_in d)) + length (scans_in cs)) c))
    ∙ ap (λ k. (order_in n d ++ orders_in (n + length (scan_in d)) cs) ++ order_in k c) (sums n (scan_in d) (scans_in cs))

from_none : (n : ℕ) → n ≡ 0 + n
from_none n = omega arith

pub planned_none : (layout : SetupParts) (scans : List StepParts) (orders : List (ℕ × CallParts)) → scans ≡ [] → orders ≡ [] → IsPlanned layout [] scans orders
unfolding refused_in scans_in orders_in
planned_none layout scans orders s o = record { fit = refl; fed = s; ordered = o }

pub planned_next : (layout : SetupParts) (cs ds : List CommandParts) (c : CommandParts) (scans more : List StepParts) (orders all : List (ℕ × CallParts)) → (n : ℕ) → IsPlanned layout cs scans orders → refused_line layout c ≡ None → more ≡ scans ++ scan_in c → n ≡ length scans → all ≡ orders ++ order_in n c → ds ≡ cs ++ (c ∷ []) → IsPlanned layout ds more all
planned_next layout cs ds c scans more orders all n p f s len o q =
    let made : IsPlanned layout (cs ++ (c ∷ [])) more all = record {
      fit = refused_both layout cs (c ∷ []) p.fit ∙ refused_one layout c ∙ none_or (refused_line layout c) None f;
      fed = s ∙ ap (λ v. v ++ scan_in c) p.fed ∙ sym (scans_push cs c);
      ordered = o ∙ ap (λ k. orders ++ order_in k c) len ∙ ap (λ v. v ++ order_in (length scans) c) p.ordered ∙ ap (λ (v : List StepParts). orders_in 0 cs ++ order_in (length v) c) p.fed ∙ ap (λ k. orders_in 0 cs ++ order_in k c) (from_none (length (scans_in cs))) ∙ sym (orders_push 0 cs c);
    } in
    subst (λ (v : List CommandParts). IsPlanned layout v more all) (sym q) made

none_refuses : (b : Option ℕ) (r : Refusal) → Refuses None r → Refuses (option_map faults.RulesAt b) r
none_refuses b (refusals.Fault f) p = absurd cc
none_refuses b refusals.Memory p = tt

some_or : (a b : Option ℕ) (r : Refusal) → Refuses (option_map faults.RulesAt a) r → Refuses (option_map faults.RulesAt (a or b)) r
some_or None b r p = none_refuses b r p
some_or (Some x) b r p = p

pub planned_all : (layout : SetupParts) (cs all : List CommandParts) (scans : List StepParts) (orders : List (ℕ × CallParts)) → IsPlanned layout cs scans orders → cs ≡ all → IsPlanned layout all scans orders
planned_all layout cs all scans orders p q = subst (λ (v : List CommandParts). IsPlanned layout v scans orders) q p

stopped : (layout : SetupParts) (cs all rest : List CommandParts) (c : CommandParts) (r : Refusal) (scans : List StepParts) (orders : List (ℕ × CallParts)) → IsPlanned layout cs scans orders → all ≡ cs ++ (c ∷ rest) → Refuses (option_map faults.RulesAt (refused_line layout c)) r → Refuses (option_map faults.RulesAt (refused_in layout all)) r
stopped layout cs all rest c r scans orders p q f =
    let same : refused_in layout all ≡ (refused_line layout c or refused_in layout rest) = ap (refused_in layout) q ∙ refused_both layout cs (c ∷ rest) p.fit ∙ refused_more layout c rest in
    subst (λ (v : Option ℕ). Refuses (option_map faults.RulesAt v) r) (sym same) (some_or (refused_line layout c) (refused_in layout rest) r f)

-- a fault that is passed on
pub planned_stop : {U : Type 0} (P : U → Type 0) (out : Result U Refusal) (e : Refusal) (layout : SetupParts) (cs all rest : List CommandParts) (c : CommandParts) (r : Refusal) (scans : List StepParts) (orders : List (ℕ × CallParts)) → IsPlanned layout cs scans orders → all ≡ cs ++ (c ∷ rest) → Refuses (option_map faults.RulesAt (refused_line layout c)) r → out ≡ Err e → e ≡ r → MatchResult out P (Refuses (option_map faults.RulesAt (refused_in layout all)))
planned_stop P (Ok u) e layout cs all rest c r scans orders p q f g h = absurd cc
planned_stop {U = U} P (Err d) e layout cs all rest c r scans orders p q f g h =
    subst (λ (v : Refusal). Refuses (option_map faults.RulesAt (refused_in layout all)) v) (sym (err_same {U = U} (Err d) d e refl g ∙ h)) (stopped layout cs all rest c r scans orders p q f)
