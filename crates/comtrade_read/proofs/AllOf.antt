-- What holds of all elements of a list.
use Rattle.std.proofs.Common.{◌≡◌, ℕ, ◌<◌, ◌≤◌, Bool, true, false, eqb, ap, List, [], ◌∷◌, ◌++◌, map, refl}
use Rattle.std.specs.Prelude.{reverse}
use Rattle.std.specs.Char.{digit_value}
use Rattle.std.specs.List.{AllByRecursion}
use Rattle.std.specs.Str.Parse.{AllDigits}
use Rattle.std.proofs.lemmas.Bool.{eqb-true, false_from_ne_true}
use Rattle.std.proofs.lemmas.List.{reverse-append}
use Rattle.std.proofs.lemmas.Str.Parse.{digit_from_value}

pub All-append : {X : Type 0} (P : X → Type 0) (xs ys : List X) → AllByRecursion P xs → AllByRecursion P ys → AllByRecursion P (xs ++ ys)
All-append P [] ys h k = k
All-append P (x ∷ xs) ys h k = (h.0, All-append P xs ys h.1 k)

pub All-parts : {X : Type 0} (P : X → Type 0) (xs ys : List X) → AllByRecursion P (xs ++ ys) → AllByRecursion P xs × AllByRecursion P ys
All-parts P [] ys h = (tt, h)
All-parts P (x ∷ xs) ys h = let rest = All-parts P xs ys h.1 in ((h.0, rest.0), rest.1)

pub All-reverse : {X : Type 0} (P : X → Type 0) (xs : List X) → AllByRecursion P xs → AllByRecursion P (reverse xs)
All-reverse P [] h = tt
All-reverse P (x ∷ xs) h = rw (reverse-append (x ∷ []) xs) (All-append P (reverse xs) (x ∷ []) (All-reverse P xs h.1) (h.0, tt))

pub All-map : {X Y : Type 0} (P : X → Type 0) (Q : Y → Type 0) (f : X → Y) → ((x : X) → P x → Q (f x)) → (xs : List X) → AllByRecursion P xs → AllByRecursion Q (map f xs)
All-map P Q f each [] h = tt
All-map P Q f each (x ∷ xs) h = (each x h.0, All-map P Q f each xs h.1)

pub All-weaker : {X : Type 0} (P Q : X → Type 0) → ((x : X) → P x → Q x) → (xs : List X) → AllByRecursion P xs → AllByRecursion Q xs
All-weaker P Q each [] h = tt
All-weaker P Q each (x ∷ xs) h = (each x h.0, All-weaker P Q each xs h.1)

pub All-digits : (P : ℕ → Type 0) → ((c : ℕ) → 48 ≤ c → c ≤ 57 → P c) → (ds : List ℕ) → AllDigits 10 ds → AllByRecursion P ds
All-digits P each ds h = All-weaker (λ c. digit_value c < 10) P (λ c lt. let r = digit_from_value c lt in each c r.0 r.1) ds h

-- what passes isn't what doesn't
pub differs : (p : ℕ → Bool) (x c : ℕ) → p x ≡ true → p c ≡ false → eqb x c ≡ false
differs p x c here there = false_from_ne_true _ (λ e. let same : p x ≡ p c = ap p (eqb-true x c e) in cc)

pub All-none : (p : ℕ → Bool) (c : ℕ) → p c ≡ false → (xs : List ℕ) → AllByRecursion (λ x. p x ≡ true) xs → AllByRecursion (λ x. eqb x c ≡ false) xs
All-none p c there xs h = All-weaker (λ x. p x ≡ true) (λ x. eqb x c ≡ false) (λ x here. differs p x c here there) xs h

-- two maps, one after the other, that make a third
pub map-map : {X Y Z : Type 0} (P : X → Type 0) (f : Y → Z) (g : X → Y) (h : X → Z) → ((x : X) → P x → f (g x) ≡ h x) → (xs : List X) → AllByRecursion P xs → map f (map g xs) ≡ map h xs
map-map P f g h each [] all = refl
map-map P f g h each (x ∷ xs) all = rw (each x all.0, map-map P f g h each xs all.1) refl

-- a map that undoes another
pub map-back : {X Y : Type 0} (f : Y → X) (g : X → Y) → ((x : X) → f (g x) ≡ x) → (xs : List X) → map f (map g xs) ≡ xs
map-back f g each [] = refl
map-back f g each (x ∷ xs) = rw (each x, map-back f g each xs) refl
