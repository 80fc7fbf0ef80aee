-- The ages of crossings, and the times between them.
use Rattle.std.proofs.Common.{◌≡◌, ◌∙◌, ap, refl, ℕ, zero, suc, ◌+◌, ◌-◌, ◌≤◌, min, sum, List, [], ◌∷◌, map, take, get_or, arith}
use Rattle.std.proofs.lemmas.List.Sums.{sum_by-cons}
use Rattle.dfr_detect.specs.Paces.{spans}

-- no age is less than the one before it
abbrev pub Ascends : List ℕ → Type 0
Ascends [] = Unit {0}
Ascends (a ∷ []) = Unit {0}
Ascends (a ∷ b ∷ ages) = (a ≤ b) × Ascends (b ∷ ages)

abbrev pub later : List ℕ → List ℕ
later ages = map (λ age. age + 65_536) ages

pub Ascends-later : (ages : List ℕ) → Ascends ages → Ascends (later ages)
Ascends-later [] h = tt
Ascends-later (a ∷ []) h = tt
Ascends-later (a ∷ b ∷ ages) h = (omega (arith, h.0), Ascends-later (b ∷ ages) h.1)

pub Ascends-more : (a : ℕ) (ages : List ℕ) → a ≤ 65_536 → Ascends ages → Ascends (a ∷ later ages)
Ascends-more a [] h s = tt
Ascends-more a (b ∷ ages) h s = (omega arith, Ascends-later (b ∷ ages) s)

pub spans-later : (far : ℕ) (ages : List ℕ) → spans far (later ages) ≡ spans far ages
spans-later far [] = refl
spans-later far (a ∷ []) = refl
spans-later far (a ∷ b ∷ ages) =
    let here : min far (b + 65_536 - (a + 65_536)) ≡ min far (b - a) = omega arith in
    ap (λ (m : ℕ). m ∷ spans far (later (b ∷ ages))) here ∙ ap (λ (ms : List ℕ). min far (b - a) ∷ ms) (spans-later far (b ∷ ages))

pub age-later : (far : ℕ) (ages : List ℕ) → min far (get_or (later ages) 0 far) ≡ min far (min far (get_or ages 0 far) + 65_536)
age-later far [] = omega arith
age-later far (a ∷ ages) = omega arith

-- a crossing more
pub spans-more : (far a : ℕ) (ages : List ℕ) → a ≤ 65_536 → spans far (a ∷ later ages) ≡ min far (min far (get_or ages 0 far) + 65_536 - a) ∷ spans far ages
spans-more far a [] h =
    let here : far ≡ min far (min far far + 65_536 - a) = omega arith in
    ap (λ (m : ℕ). m ∷ []) here
spans-more far a (b ∷ ages) h =
    let here : min far (b + 65_536 - a) ≡ min far (min far b + 65_536 - a) = omega arith in
    ap (λ (m : ℕ). m ∷ spans far (later (b ∷ ages))) here
    ∙ ap (λ (ms : List ℕ). min far (min far b + 65_536 - a) ∷ ms) (spans-later far (b ∷ ages))

pub age_past : (m far : ℕ) → get_or [] m far ≡ far
age_past zero far = refl
age_past (suc m) far = refl

-- an age, from the newest one and the times since
pub age_from : (far m : ℕ) (ages : List ℕ) → Ascends ages → min far (get_or ages 0 far + sum (take m (spans far ages))) ≡ min far (get_or ages m far)
age_from far zero [] h = omega arith
age_from far (suc m) [] h = omega arith
age_from far zero (a ∷ []) h = omega arith
age_from far zero (a ∷ b ∷ ages) h = omega arith
age_from far (suc m) (a ∷ []) h =
    let more = sum_by-cons (λ (x : ℕ). x) far (take m []) in
    let past = age_past m far in
    omega (arith, more, past)
age_from far (suc m) (a ∷ b ∷ ages) h =
    let more = sum_by-cons (λ (x : ℕ). x) (min far (b - a)) (take m (spans far (b ∷ ages))) in
    let rest = age_from far m (b ∷ ages) h.1 in
    omega (arith, more, rest, h.0)
