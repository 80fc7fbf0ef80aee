-- What loops over plans leave.
use Rattle.std.proofs.Common.{◌≡◌, ◌∙◌, sym, ap, refl, ℕ, ◌+◌, ◌<◌, ◌≤◌, List, [], ◌∷◌, ◌++◌, length, map, get_or, take, append_assoc, None}
use Rattle.std.specs.List.{All}
use Rattle.std.proofs.lemmas.List.{map-append, take_more, take_all}
use Rattle.std.proofs.lemmas.List.Elements.{All-map, All-same}
use Rattle.dfr_detect.specs.Detection.{Detected, detected, all_detected}
use Rattle.dfr_detect.specs.Lost.{Works}
use Rattle.dfr_detect.specs.Fitting.{settings_fault}
use Rattle.dfr_detect.proofs.Fitted.{settings_fit}
use Rattle.dfr_setup.specs.Plans.{PlanParts, wanted_of}

-- one item more is made
pub map_push : {W X : Type 0} (f : W → X) (xs : List W) (i : ℕ) (none : W) (before items made : List X) (x : X) → i < length xs
    → items ≡ before ++ map f (take i xs) → x ≡ f (get_or xs i none) → made ≡ items ++ x ∷ [] → made ≡ before ++ map f (take (i + 1) xs)
map_push f xs i none before items made x lt had is added =
    added ∙ ap (λ ys. ys ++ x ∷ []) had ∙ append_assoc before (map f (take i xs)) (x ∷ [])
    ∙ ap (λ y. before ++ (map f (take i xs) ++ y ∷ [])) is
    ∙ ap (λ ys. before ++ ys) (sym (ap (λ ws. map f ws) (take_more xs i none lt) ∙ map-append f (take i xs) (get_or xs i none ∷ [])))

-- what a detector keeps before the first scan
abbrev pub fresh_of : PlanParts → Detected
fresh_of p = detected (wanted_of p) []

pub all_fresh : (ps : List PlanParts) → map fresh_of ps ≡ all_detected (map wanted_of ps) []
all_fresh [] = refl
all_fresh (p ∷ ps) = ap (λ ds. fresh_of p ∷ ds) (all_fresh ps)

-- all are made
pub all_made : (ps : List PlanParts) (i : ℕ) (items : List Detected) → length ps ≤ i → items ≡ map fresh_of (take i ps) → items ≡ all_detected (map wanted_of ps) []
all_made ps i items all is = is ∙ ap (λ xs. map fresh_of xs) (take_all i ps all) ∙ all_fresh ps

pub all_work : (ps : List PlanParts) (i : ℕ) → length ps ≤ i → All (λ p. Works (wanted_of p)) (take i ps) → All Works (map wanted_of ps)
all_work ps i all works = All-map Works wanted_of ps (All-same (λ p. Works (wanted_of p)) ps (take i ps) (sym (take_all i ps all)) works)

-- a plan's detector starts anew after a lost scan
pub works_of : (p : PlanParts) → settings_fault p.settings ≡ None → 1 ≤ length p.channels → Works (wanted_of p)
works_of p fits some = record { fits = settings_fit p.settings fits; some = some }
