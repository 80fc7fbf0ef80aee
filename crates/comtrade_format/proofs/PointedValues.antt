-- Numbers with a point.
use Rattle.std.proofs.Common.{◌≡◌, ℕ, zero, suc, ◌+◌, ◌-◌, ◌*◌, ◌/◌, ◌%◌, ◌^◌, ◌<◌, ◌≤◌, List, [], ◌∷◌, ◌++◌, length, refl, sym, ap, ◌∙◌, arith, append_assoc, length-append, inl, inr}
use Rattle.std.proofs.Math.Nat.{pow-suc, mul_left_comm}
use Rattle.std.proofs.Math.Seq.{take-append_seam, drop-append_seam}
use Rattle.std.specs.List.{repeat}
use Rattle.std.specs.Fmt.{decimal}
use Rattle.std.proofs.lemmas.Bool.{cases_lt}
use Rattle.std.proofs.lemmas.Fmt.{decimal_digit, decimal_step, length-decimal-le}
use Rattle.comtrade_values.specs.Written.{filled, padded, pointed, with_point}
use Rattle.comtrade_values.proofs.Digits.{padded_one, padded_more}
use Rattle.comtrade_format.proofs.Places.{length_zeros}

-- a number has one digit at least
no_zeros : (q : ℕ) → 10 ≤ q → q < 2 ^ 64 → padded 1 q ≡ decimal q
unfolding padded filled
no_zeros q low fits =
    let len : length (decimal q) ≡ length (decimal (q / 10)) + 1 = ap length (decimal_step q low fits) ∙ length-append (decimal (q / 10)) ((48 + q % 10) ∷ []) in
    let none : 1 - length (decimal q) ≡ 0 = omega (arith, len) in
    rw none refl

padded_least : (q : ℕ) → q < 2 ^ 64 → padded 1 q ≡ decimal q
padded_least q fits = elim (cases_lt q 10) [ inl lt ↦ padded_one q lt ∙ sym (decimal_digit q lt) | inr le ↦ no_zeros q le fits ]

-- the digits of a number are those before the last p + 1 of its places, and those
pub digits_apart : (p q r : ℕ) → r < 10 ^ suc p → q * 10 ^ suc p + r < 2 ^ 64
    → padded (suc (suc p)) (q * 10 ^ suc p + r) ≡ decimal q ++ padded (suc p) r
digits_apart zero q r h fits =
    let ten : 10 ^ 1 ≡ 10 = refl in
    let few : r < 10 = omega (arith, ten) in
    let front : (q * 10 + r) / 10 ≡ q = omega arith in
    let last : (q * 10 + r) % 10 ≡ r = omega arith in
    let digit = padded_one r few in
    rw (ten, padded_more 0 (q * 10 + r) (omega (arith, ten)), front, last, padded_least q (omega (arith, ten)), digit) refl
digits_apart (suc p) q r h fits =
    let unit : 10 ^ suc (suc p) ≡ 10 * 10 ^ suc p = omega (arith, pow-suc 10 (suc p)) in
    let size : q * 10 ^ suc (suc p) ≡ 10 * (q * 10 ^ suc p) = ap (λ (k : ℕ). q * k) unit ∙ mul_left_comm q 10 (10 ^ suc p) in
    let front : (10 * (q * 10 ^ suc p) + r) / 10 ≡ q * 10 ^ suc p + r / 10 = omega arith in
    let last : (10 * (q * 10 ^ suc p) + r) % 10 ≡ r % 10 = omega arith in
    let before = digits_apart p q (r / 10) (omega (arith, unit)) (omega (arith, size)) in
    let more = padded_more p r (omega (arith, size)) in
    rw (size, padded_more (suc p) (10 * (q * 10 ^ suc p) + r) (omega (arith, size)), front, last, before, more)
    (append_assoc (decimal q) (padded (suc p) (r / 10)) ((48 + r % 10) ∷ []))

pub length_padded : (p r : ℕ) → r < 10 ^ suc p → r < 2 ^ 64 → length (padded (suc p) r) ≡ suc p
unfolding padded filled
length_padded p r h fits =
    let few = length-decimal-le (suc p) r (omega arith) h fits in
    length-append (repeat (suc p - length (decimal r)) (48 ∷ [])) (decimal r) ∙ omega (arith, length_zeros (suc p - length (decimal r)))

-- the point stands between both
pub pointed_parts : (p q r u : ℕ) → r < 10 ^ suc p → u ≡ q * 10 ^ suc p + r → u < 2 ^ 64
    → pointed (suc p) (decimal u) ≡ decimal q ++ 46 ∷ padded (suc p) r
unfolding pointed with_point padded
pointed_parts p q r u h is fits =
    let more : suc p + 1 ≡ suc (suc p) = omega arith in
    let digits : List ℕ = decimal q ++ padded (suc p) r in
    let apart : filled (suc p + 1) (decimal u) ≡ digits = rw (more, is) (digits_apart p q r h (omega (arith, is))) in
    let len : length digits ≡ length (decimal q) + suc p = length-append (decimal q) (padded (suc p) r) ∙ ap (λ (k : ℕ). length (decimal q) + k) (length_padded p r h (omega (arith, is))) in
    let front : length digits - suc p ≡ length (decimal q) = omega (arith, len) in
    rw (apart, front, take-append_seam (decimal q) (padded (suc p) r), drop-append_seam (decimal q) (padded (suc p) r)) refl
