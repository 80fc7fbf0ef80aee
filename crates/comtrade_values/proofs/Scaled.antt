-- Units with zeros after them, and numbers of at most 36 digits.
use Rattle.std.proofs.Common.{◌≡◌, ℕ, zero, suc, ◌+◌, ◌-◌, ◌*◌, ◌^◌, ◌<◌, ◌≤◌, ℤ, pos, negsuc, neg_ℤ, ◌*ℤ◌, ◌+ℤ◌, ◌<ℤ◌, FitsSigned, unsigned_abs, max, refl, sym, ap, ◌∙◌, subst, arith}
use Rattle.std.specs.Int.{w128}
use Rattle.std.proofs.Math.Nat.{pow-le-pow_right, one-le-pow, mul-le-mul_left, mul-le-mul_right, mul_assoc, mul_right_comm}
use Rattle.std.proofs.lemmas.Int.{ints, unsigned_abs-mul, fits_signed_from_abs}
use Rattle.comtrade_values.specs.Spelling.{Number, IsNumber}
use Rattle.std.proofs.lemmas.Nat.{pow-add}
use Rattle.std.proofs.Math.IntN.{zero-*ℤ}
use Rattle.std.specs.Prelude.{Option, Some, None, Result, Ok, Err, OnOk}
use Rattle.std.specs.Option.{SomeIff}
use Rattle.comtrade_values.specs.Arithmetic.{with_places, times, value, number_of, IsShort}

-- the size of an integer that isn't 0 is above 0
some_size : (z : ℤ) → (z ≡ pos 0 → ⊥) → 0 < unsigned_abs z
some_size (pos zero) h = absurd (h refl)
some_size (pos (suc n)) h = omega arith
some_size (negsuc n) h = omega arith

pub many_zeros : (z : ℤ) (k : ℕ) → (z ≡ pos 0 → ⊥) → 36 ≤ k → 10 ^ 36 ≤ unsigned_abs (z *ℤ pos (10 ^ k))
many_zeros z k some h =
    let p : 10 ^ 36 ≤ 10 ^ k = pow-le-pow_right {n = 10} (omega arith) {i = 36} {j = k} h in
    let q : 1 * 10 ^ k ≤ unsigned_abs z * 10 ^ k = mul-le-mul_right (10 ^ k) (some_size z some) in
    omega (arith, unsigned_abs-mul z (pos (10 ^ k)))

pub few_zeros : (k : ℕ) → k < 36 → 10 ^ k < 2 ^ 127
few_zeros k h =
    let p : 10 ^ k ≤ 10 ^ 36 = pow-le-pow_right {n = 10} (omega arith) {i = k} {j = 36} (omega arith) in
    omega arith

-- zeros make no number smaller
pub no_less : (z : ℤ) (k : ℕ) → unsigned_abs z ≤ unsigned_abs (z *ℤ pos (10 ^ k))
no_less z k =
    let p : 1 ≤ 10 ^ k = one-le-pow k 10 (omega arith) in
    let q : unsigned_abs z * 1 ≤ unsigned_abs z * 10 ^ k = mul-le-mul_left (unsigned_abs z) p in
    omega (arith, unsigned_abs-mul z (pos (10 ^ k)))

pub below_size : (z : ℤ) → negsuc (10 ^ 36 - 1) <ℤ z → z <ℤ pos (10 ^ 36) → unsigned_abs z < 10 ^ 36
below_size (pos n) above below = omega (arith, ints)
below_size (negsuc n) above below = omega (arith, ints)

pub in_size : (z : ℤ) (p : ℕ) → unsigned_abs z < 10 ^ 36 → p ≤ 80 → IsNumber (record { units = z; places = p })
in_size (pos n) p h fits = record { above = omega (arith, ints); below = omega (arith, ints); places = fits }
in_size (negsuc n) p h fits = record { above = omega (arith, ints); below = omega (arith, ints); places = fits }

pub size_fits : (z : ℤ) → unsigned_abs z < 10 ^ 36 → FitsSigned w128 z
size_fits z h = fits_signed_from_abs w128 z (omega arith)

pub sum_fits : (y z : ℤ) → unsigned_abs y < 10 ^ 36 → unsigned_abs z < 10 ^ 36 → FitsSigned w128 (y +ℤ z)
sum_fits (pos m) (pos n) g h = omega (arith, ints)
sum_fits (pos m) (negsuc n) g h = omega (arith, ints)
sum_fits (negsuc m) (pos n) g h = omega (arith, ints)
sum_fits (negsuc m) (negsuc n) g h = omega (arith, ints)

-- zeros and more zeros
neg_times : (m b : ℕ) → neg_ℤ (pos m) *ℤ pos b ≡ neg_ℤ (pos (m * b))
neg_times zero b = ap pos (omega arith) ∙ sym (ap (λ (n : ℕ). neg_ℤ (pos n)) (zero_times b))
  where
    zero_times : (b : ℕ) → zero * b ≡ 0
    zero_times b = omega arith
neg_times (suc m) b = refl

pub times_twice : (z : ℤ) (a b : ℕ) → (z *ℤ pos a) *ℤ pos b ≡ z *ℤ pos (a * b)
times_twice (pos n) a b = ap pos (mul_assoc n a b)
times_twice (negsuc n) a b = neg_times (suc n * a) b ∙ ap (λ (m : ℕ). neg_ℤ (pos m)) (mul_assoc (suc n) a b)

neg_twice : (m n : ℕ) → neg_ℤ (pos m) *ℤ negsuc n ≡ pos (m * suc n)
neg_twice zero n = ap (λ (k : ℕ). neg_ℤ (pos k)) none ∙ ap pos (sym none)
  where
    none : zero * suc n ≡ 0
    none = omega arith
neg_twice (suc m) n = refl

-- zeros after the factor are zeros after the product
zeros_after : (z x : ℤ) (k : ℕ) → (z *ℤ x) *ℤ pos k ≡ (z *ℤ pos k) *ℤ x
zeros_after (pos m) (pos n) k = ap pos (mul_right_comm m n k)
zeros_after (pos m) (negsuc n) k = neg_times (m * suc n) k ∙ ap (λ (j : ℕ). neg_ℤ (pos j)) (mul_right_comm m (suc n) k)
zeros_after (negsuc m) (pos n) k =
    neg_times (suc m * n) k ∙ ap (λ (j : ℕ). neg_ℤ (pos j)) (mul_right_comm (suc m) n k) ∙ sym (neg_times (suc m * k) n)
zeros_after (negsuc m) (negsuc n) k = ap pos (mul_right_comm (suc m) (suc n) k) ∙ sym (neg_twice (suc m * k) n)

-- a and b with the places of the finer one give each sample its value
pub aligned_value_of : (a b : Number) (places : ℕ) (p q x : ℤ) → places ≡ max a.places b.places → number_of p places ≡ with_places places a → number_of q places ≡ with_places places b
    → value a b x ≡ number_of (p *ℤ x +ℤ q) places
aligned_value_of a b places p q x e ep eq =
    let m : ℕ = max a.places b.places in
    let factor : (a.units *ℤ x) *ℤ pos (10 ^ (m - a.places)) ≡ p *ℤ x =
    zeros_after a.units x (10 ^ (m - a.places)) ∙ ap (λ (k : ℕ). (a.units *ℤ pos (10 ^ (k - a.places))) *ℤ x) (sym e) ∙ ap (λ (n : Number). n.units *ℤ x) (sym ep) in
    let offset : b.units *ℤ pos (10 ^ (m - b.places)) ≡ q =
    ap (λ (k : ℕ). b.units *ℤ pos (10 ^ (k - b.places))) (sym e) ∙ ap (λ (n : Number). n.units) (sym eq) in
    ap (λ (u : ℤ). number_of (u +ℤ b.units *ℤ pos (10 ^ (m - b.places))) m) factor
    ∙ ap (λ (u : ℤ). number_of (p *ℤ x +ℤ u) m) offset
    ∙ ap (λ (k : ℕ). number_of (p *ℤ x +ℤ q) k) (sym e)

-- ---- what is too long

pub long_product : (n : Number) (x : ℤ) → (FitsSigned w128 (n.units *ℤ x) → ⊥) → IsNumber (times n x) → ⊥
long_product n x h s = h (size_fits (n.units *ℤ x) (below_size _ s.above s.below))

pub unit_size : (n : Number) → IsNumber n → unsigned_abs n.units < 10 ^ 36
unit_size n h = below_size n.units h.above h.below

pub long_zeros : (n : Number) (places : ℕ) → (n.units ≡ pos 0 → ⊥) → 36 ≤ places - n.places → IsNumber (with_places places n) → ⊥
long_zeros n places some h s =
    let size = below_size (with_places places n).units s.above s.below in
    let m = many_zeros n.units (places - n.places) some h in
    absurd (omega arith)

pub long_units : (n : Number) (places : ℕ) → (FitsSigned w128 (n.units *ℤ pos (10 ^ (places - n.places))) → ⊥) → IsNumber (with_places places n) → ⊥
long_units n places h s = h (size_fits _ (below_size _ s.above s.below))

-- a product that is short with more places is short
pub product_before : (n : Number) (x : ℤ) (places : ℕ) → n.places ≤ places → IsNumber (with_places places (times n x)) → IsNumber (times n x)
product_before n x places few s =
    let size = below_size (with_places places (times n x)).units s.above s.below in
    in_size (n.units *ℤ x) n.places (omega (arith, no_less (n.units *ℤ x) (places - n.places))) (omega (arith, s.places))

pub zero_with : (n : Number) (places : ℕ) → n.units ≡ pos 0 → (record { units = pos 0; places = places }) ≡ with_places places n
zero_with n places z = ap (λ (u : ℤ). record { units = u; places = places }) (none (10 ^ (places - n.places)) ∙ ap (λ (u : ℤ). u *ℤ pos (10 ^ (places - n.places))) (sym z))
  where
    none : (m : ℕ) → pos 0 ≡ pos 0 *ℤ pos m
    none m = sym (zero-*ℤ (pos m))

one_zero : (s t : Number) → with_places t.places s ≡ t → s.places + 1 ≡ t.places → s.units *ℤ pos (10 ^ 1) ≡ t.units
one_zero s t f one =
    let gap : 1 ≡ t.places - s.places = omega arith in
    ap (λ (k : ℕ). s.units *ℤ pos (10 ^ k)) gap ∙ ap (λ (m : Number). m.units) f

-- one place fewer, and then the places up to those of the first
pub fewer : (n t s : Number) → with_places n.places t ≡ n → t.places ≤ n.places → with_places t.places s ≡ t → s.places + 1 ≡ t.places → with_places n.places s ≡ n
fewer n t s e few f one =
    let gap : n.places - s.places ≡ 1 + (n.places - t.places) = omega arith in
    let step : s.units *ℤ pos (10 ^ (n.places - s.places)) ≡ t.units *ℤ pos (10 ^ (n.places - t.places)) =
    ap (λ (k : ℕ). s.units *ℤ pos (10 ^ k)) gap
    ∙ ap (λ (k : ℕ). s.units *ℤ pos k) (pow-add 10 1 (n.places - t.places))
    ∙ sym (times_twice s.units (10 ^ 1) (10 ^ (n.places - t.places)))
    ∙ ap (λ (u : ℤ). u *ℤ pos (10 ^ (n.places - t.places))) (one_zero s t f one) in
    ap (λ (u : ℤ). record { units = u; places = n.places }) step ∙ e

-- ---- a * x + b

pub no_product : (a b : Number) (x : ℤ) → (IsNumber (times a x) → ⊥) → IsShort a b x → ⊥
no_product a b x h s = h (product_before a x (max a.places b.places) (omega arith) s.product)

pub no_wide_product : (a b : Number) (x : ℤ) (places : ℕ) → places ≡ max a.places b.places → (IsNumber (with_places places (times a x)) → ⊥) → IsShort a b x → ⊥
no_wide_product a b x places e h s = h (subst (λ (p : ℕ). IsNumber (with_places p (times a x))) (sym e) s.product)

pub no_wide_offset : (a b : Number) (x : ℤ) (places : ℕ) → places ≡ max a.places b.places → (IsNumber (with_places places b) → ⊥) → IsShort a b x → ⊥
no_wide_offset a b x places e h s = h (subst (λ (p : ℕ). IsNumber (with_places p b)) (sym e) s.offset)

-- the sum, in units of the last of so many places
abbrev total : ℕ → Number → Number → Number
total places p q = record { units = p.units +ℤ q.units; places = places }

same_value : (a b : Number) (x : ℤ) (places : ℕ) (p q : Number) → places ≡ max a.places b.places → p ≡ with_places places (times a x) → q ≡ with_places places b → total places p q ≡ value a b x
same_value a b x places p q e ep eq =
    ap (λ (n : Number). total places n q) ep
    ∙ ap (λ (n : Number). total places (with_places places (times a x)) n) eq
    ∙ ap (λ (k : ℕ). total k (with_places k (times a x)) (with_places k b)) e

pub none_if : (o : Option Number) (P : Type 0) (v : Number) → o ≡ None → (P → ⊥) → SomeIff o P v
none_if None P v e h = h
none_if (Some x) P v e h = absurd cc

pub value_of : (a b : Number) (x : ℤ) (places : ℕ) (p q : Number) (o : Option Number) → places ≡ max a.places b.places → p ≡ with_places places (times a x) → q ≡ with_places places b
    → IsNumber p → IsNumber q → SomeIff o (IsNumber (record { units = p.units +ℤ q.units; places = places })) (record { units = p.units +ℤ q.units; places = places }) → SomeIff o (IsShort a b x) (value a b x)
value_of a b x places p q None e ep eq hp hq h = λ s. h (subst IsNumber (sym (same_value a b x places p q e ep eq)) s.sum)
value_of a b x places p q (Some v) e ep eq hp hq h =
    let product : IsNumber (with_places (max a.places b.places) (times a x)) = subst IsNumber (ep ∙ ap (λ (k : ℕ). with_places k (times a x)) e) hp in
    let offset : IsNumber (with_places (max a.places b.places) b) = subst IsNumber (eq ∙ ap (λ (k : ℕ). with_places k b) e) hq in
    (record { product = product; offset = offset; sum = subst IsNumber (same_value a b x places p q e ep eq) h.0 }, h.1 ∙ same_value a b x places p q e ep eq)

-- where a fact is false nothing is promised
pub nothing_promised : {T E : Type 0} (r : Result T E) (P Q : Type 0) → (P → ⊥) → OnOk r (P → Q)
nothing_promised (Ok v) P Q h = λ p. absurd (h p)
nothing_promised (Err e) P Q h = tt
