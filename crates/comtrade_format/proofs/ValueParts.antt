-- A value by what stands before and after its point, without zeros at its end.
use Rattle.std.proofs.Common.{◌≡◌, ◌≢◌, ℕ, zero, suc, ◌+◌, ◌-◌, ◌*◌, ◌/◌, ◌%◌, ◌^◌, ◌<◌, ◌≤◌, ℤ, pos, negsuc, neg_ℤ, ◌*ℤ◌, unsigned_abs, int_rem, List, ◌++◌, refl, sym, ap, ◌∙◌, subst, arith, append_assoc, inl, inr}
use Rattle.std.proofs.Math.Nat.{one-le-pow, mul_assoc, mul-mod_left, mul-div_cancel, mul-lt-mul_of_pos_right, pow-suc, add-mul, mod-lt}
use Rattle.std.proofs.lemmas.Bool.{cases_lt}
use Rattle.std.proofs.lemmas.List.{append-nil}
use Rattle.std.proofs.lemmas.Nat.{div-add-mod', div_below, pow-add}
use Rattle.std.specs.Fmt.{decimal}
use Rattle.comtrade_values.specs.Written.{decimal_text, minus, pointed}
use Rattle.comtrade_format.specs.Places.{IsShown, places_text}
use Rattle.comtrade_values.specs.Arithmetic.{number_of, IsTrimmed}
use Rattle.comtrade_format.proofs.PointedValues.{pointed_parts}
use Rattle.comtrade_values.proofs.Points.{pointed_none}
use Rattle.comtrade_format.proofs.ValuePlaces.{no_rest}

some : (k : ℕ) → 0 < 10 ^ k
some k = one-le-pow k 10 (omega arith)

unit_apart : (p k : ℕ) → k ≤ p → 10 ^ p ≡ 10 ^ k * 10 ^ (p - k)
unit_apart p k h =
    let whole : p ≡ k + (p - k) = omega arith in
    ap (λ (e : ℕ). 10 ^ e) whole ∙ pow-add 10 k (p - k)

cancel : (x y v : ℕ) → 0 < v → x * v ≡ y * v → x ≡ y
cancel x y v h e = sym (mul-div_cancel x h) ∙ ap (λ (t : ℕ). t / v) e ∙ mul-div_cancel y h

-- what stands after the point has sixteen digits
pub after_fits : (size p : ℕ) → p ≤ 16 → size % 10 ^ p * 10 ^ (16 - p) < 10 ^ 16
after_fits size p h =
    let less : size % 10 ^ p * 10 ^ (16 - p) < 10 ^ p * 10 ^ (16 - p) = mul-lt-mul_of_pos_right (mod-lt size (some p)) (some (16 - p)) in
    omega (arith, less, unit_apart 16 p h)

-- no digit after the last place is shown
shown_after : (last p k : ℕ) → p < k → IsShown 16 (last * 10 ^ (16 - p)) k → ⊥
shown_after last p k less s =
    let d : ℕ = k - p - 1 in
    let v : ℕ = 10 ^ (16 - k) in
    let gap : 16 - p ≡ suc d + (16 - k) = omega (arith, s.within) in
    let unit : 10 ^ (16 - p) ≡ 10 ^ d * 10 * v = ap (λ (e : ℕ). 10 ^ e) gap ∙ pow-add 10 (suc d) (16 - k) ∙ ap (λ (u : ℕ). u * v) (pow-suc 10 d) in
    let parts : last * 10 ^ (16 - p) ≡ last * 10 ^ d * 10 * v =
    ap (λ (u : ℕ). last * u) unit ∙ sym (mul_assoc last (10 ^ d * 10) v) ∙ ap (λ (u : ℕ). u * v) (sym (mul_assoc last (10 ^ d) 10)) in
    let front : last * 10 ^ (16 - p) / v ≡ last * 10 ^ d * 10 = ap (λ (x : ℕ). x / v) parts ∙ mul-div_cancel (last * 10 ^ d * 10) (some (16 - k)) in
    s.last (λ h. omega (arith, h)) (ap (λ (x : ℕ). x % 10) front ∙ mul-mod_left (last * 10 ^ d) 10)

pub few_places : (last p k : ℕ) → IsShown 16 (last * 10 ^ (16 - p)) k → k ≤ p
few_places last p k s = elim (cases_lt p k) [ inl lt ↦ absurd (shown_after last p k lt s) | inr le ↦ le ]

-- the shown digits, with the places that aren't shown
shown_whole : (last p k : ℕ) → p ≤ 16 → k ≤ p → IsShown 16 (last * 10 ^ (16 - p)) k → last * 10 ^ (16 - p) / 10 ^ (16 - k) * 10 ^ (p - k) ≡ last
shown_whole last p k h le s =
    let v : ℕ = 10 ^ (16 - p) in
    let m : ℕ = last * v / 10 ^ (16 - k) in
    let gap : 16 - k ≡ (p - k) + (16 - p) = omega arith in
    let unit : 10 ^ (16 - k) ≡ 10 ^ (p - k) * v = ap (λ (e : ℕ). 10 ^ e) gap ∙ pow-add 10 (p - k) (16 - p) in
    cancel (m * 10 ^ (p - k)) last v (some (16 - p)) (mul_assoc m (10 ^ (p - k)) v ∙ ap (λ (u : ℕ). m * u) (sym unit) ∙ no_rest (last * v) (10 ^ (16 - k)) s.zeros)

-- the units with k places, and then the others
pub units_whole : (size p k front after : ℕ) → p ≤ 16 → front ≡ size / 10 ^ p → after ≡ size % 10 ^ p * 10 ^ (16 - p) → IsShown 16 after k
    → (front * 10 ^ k + after / 10 ^ (16 - k)) * 10 ^ (p - k) ≡ size
units_whole size p k front after h ef ea s =
    let last : ℕ = size % 10 ^ p in
    let t : IsShown 16 (last * 10 ^ (16 - p)) k = subst (λ (x : ℕ). IsShown 16 x k) ea s in
    let le = few_places last p k t in
    let m : ℕ = after / 10 ^ (16 - k) in
    let rest : m * 10 ^ (p - k) ≡ last = ap (λ (x : ℕ). x / 10 ^ (16 - k) * 10 ^ (p - k)) ea ∙ shown_whole last p k h le t in
    let before : front * 10 ^ k * 10 ^ (p - k) ≡ size / 10 ^ p * 10 ^ p =
    mul_assoc front (10 ^ k) (10 ^ (p - k)) ∙ ap (λ (u : ℕ). front * u) (sym (unit_apart p k le)) ∙ ap (λ (x : ℕ). x * 10 ^ p) ef in
    add-mul (front * 10 ^ k) m (10 ^ (p - k)) ∙ omega (arith, rest, before, div-add-mod' size (10 ^ p))

pub after_below : (after k : ℕ) → k ≤ 16 → after < 10 ^ 16 → after / 10 ^ (16 - k) < 10 ^ k
after_below after k h few = div_below after (10 ^ (16 - k)) (10 ^ k) (some (16 - k)) (subst (λ (x : ℕ). after < x) (unit_apart 16 k h) few)

pub shown_last_digit : (front after k : ℕ) → IsShown 16 after k → k ≢ 0 → (front * 10 ^ k + after / 10 ^ (16 - k)) % 10 ≢ 0
shown_last_digit front after zero s h = absurd (h refl)
shown_last_digit front after (suc k) s h =
    let y : ℕ = after / 10 ^ (16 - suc k) in
    let ten : front * 10 ^ suc k ≡ front * 10 ^ k * 10 = ap (λ (p : ℕ). front * p) (pow-suc 10 k) ∙ sym (mul_assoc front (10 ^ k) 10) in
    let same : (front * 10 ^ suc k + y) % 10 ≡ y % 10 = omega (arith, ten) in
    λ e. s.last h (sym same ∙ e)

-- ---- with a sign

-- the number of this size with the sign of z
abbrev pub signed : ℤ → ℕ → ℤ
signed (pos n) u = pos u
signed (negsuc n) u = neg_ℤ (pos u)

size_signed : (z : ℤ) (u : ℕ) → unsigned_abs (signed z u) ≡ u
size_signed (pos n) u = refl
size_signed (negsuc n) zero = refl
size_signed (negsuc n) (suc u) = refl

signed_times : (z : ℤ) (u v : ℕ) → u * v ≡ unsigned_abs z → signed z u *ℤ pos v ≡ z
signed_times (pos n) u v e = ap pos e
signed_times (negsuc n) zero v e = absurd (omega arith)
signed_times (negsuc n) (suc u) v e = ap (λ (m : ℕ). neg_ℤ (pos m)) e

signed_rest : (z : ℤ) (u : ℕ) → u % 10 ≢ 0 → int_rem (signed z u) (pos 10) ≢ pos 0
signed_rest (pos n) u h = λ e. h (ap unsigned_abs e)
signed_rest (negsuc n) zero h = λ e. h refl
signed_rest (negsuc n) (suc u) h = λ e. h (sym (size_signed (negsuc n) (suc u % 10)) ∙ ap unsigned_abs e)

minus_signed : (z : ℤ) (u v : ℕ) → u * v ≡ unsigned_abs z → minus (signed z u) ≡ minus z
minus_signed (pos n) u v e = refl
minus_signed (negsuc n) zero v e = absurd (omega arith)
minus_signed (negsuc n) (suc u) v e = refl

pub trimmed_value : (z : ℤ) (p k u : ℕ) → k ≤ p → u * 10 ^ (p - k) ≡ unsigned_abs z → (k ≢ 0 → u % 10 ≢ 0) → IsTrimmed (number_of z p) (number_of (signed z u) k)
trimmed_value z p k u le e last = record {
  fewer = le;
  same = ap (λ (units : ℤ). number_of units p) (signed_times z u (10 ^ (p - k)) e);
  short = λ h. signed_rest z u (last h);
}

digits_text : (k front m : ℕ) → m < 10 ^ k → front * 10 ^ k + m < 2 ^ 64 → pointed k (decimal (front * 10 ^ k + m)) ≡ decimal front ++ places_text k m
digits_text zero front m few fits =
    let one : front * 1 + m ≡ front = omega arith in
    pointed_none (decimal (front * 1 + m)) ∙ ap decimal one ∙ sym (append-nil (decimal front))
digits_text (suc k) front m few fits = pointed_parts k front m (front * 10 ^ suc k + m) few refl fits

pub value_text : (z : ℤ) (k front m v : ℕ) → m < 10 ^ k → front * 10 ^ k + m < 2 ^ 64 → (front * 10 ^ k + m) * v ≡ unsigned_abs z
    → minus z ++ (decimal front ++ places_text k m) ≡ decimal_text (number_of (signed z (front * 10 ^ k + m)) k)
unfolding decimal_text
value_text z k front m v few fits e =
    let u : ℕ = front * 10 ^ k + m in
    sym (
    ap (λ (sign : List ℕ). sign ++ pointed k (decimal (unsigned_abs (signed z u)))) (minus_signed z u v e)
    ∙ ap (λ (size : ℕ). minus z ++ pointed k (decimal size)) (size_signed z u)
    ∙ ap (λ (text : List ℕ). minus z ++ text) (digits_text k front m few fits)
    )

-- the sign, the digits before the point, the point and those after it, each put after what stood before
pub three_parts : (before sign front places a b c : List ℕ) → a ≡ before ++ sign → b ≡ a ++ front → c ≡ b ++ places → c ≡ before ++ (sign ++ (front ++ places))
three_parts before sign front places a b c ea eb ec =
    ec
    ∙ ap (λ (x : List ℕ). x ++ places) (eb ∙ ap (λ (x : List ℕ). x ++ front) ea)
    ∙ append_assoc (before ++ sign) front places
    ∙ append_assoc before sign (front ++ places)

-- the rest of a division, with zeros after it
pub rest_fits : (n p q unit zeros : ℕ) → p ≤ 16 → q ≡ n / 10 ^ p → unit ≡ 10 ^ p → zeros ≡ 10 ^ (16 - p) → (n - q * unit) * zeros < 2 ^ 64
rest_fits n p q unit zeros h eq eu ez =
    let part : q * unit ≡ n / 10 ^ p * 10 ^ p = ap (λ (x : ℕ). x * unit) eq ∙ ap (λ (x : ℕ). n / 10 ^ p * x) eu in
    let rest : n - q * unit ≡ n % 10 ^ p = omega (arith, part, div-add-mod' n (10 ^ p)) in
    let after : (n - q * unit) * zeros ≡ n % 10 ^ p * 10 ^ (16 - p) = ap (λ (x : ℕ). x * zeros) rest ∙ ap (λ (x : ℕ). n % 10 ^ p * x) ez in
    omega (arith, after, after_fits n p h)
