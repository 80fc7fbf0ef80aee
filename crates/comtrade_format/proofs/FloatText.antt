-- A decimal that is spelled with an exponent is the text of a float.
use Rattle.std.proofs.Common.{◌≡◌, ℕ, suc, ◌-◌, ◌<◌, ◌^◌, true, false, eqb, List, [], ◌∷◌, ◌++◌, length, refl, ap, ◌∙◌, arith}
use Rattle.std.specs.Prelude.{ℤ, pos, negsuc, ◌<ℤ◌, unsigned_abs}
use Rattle.std.specs.Char.{digit_value, is_ascii_digit}
use Rattle.std.specs.Str.Parse.{AllDigits}
use Rattle.std.specs.Fmt.{decimal, signed_decimal}
use Rattle.std.specs.Float.Parse.{float_scan_step, completes_number, is_float_text}
use Rattle.std.proofs.lemmas.Fmt.{decimal_is_IsNumeral_wide}
use Rattle.std.proofs.lemmas.Str.Parse.{digit_from_value}
use Rattle.std.proofs.lemmas.Int.{ints}
use Rattle.std.proofs.lemmas.Bool.Decides.{nat_tests}
use Rattle.comtrade_values.specs.Spelling.{Number, IsNumber}
use Rattle.comtrade_format.specs.Floats.{spelled}

digit : (c : ℕ) → digit_value c < 10 → is_ascii_digit c ≡ true
digit c h = let r = digit_from_value c h in grind (arith, nat_tests)

not_equal : (a b : ℕ) → b < a → eqb a b ≡ false
not_equal a b h = grind (arith, nat_tests)

-- a digit at the start, in the whole part, after the exponent's sign and in the exponent
steps : (c : ℕ) → is_ascii_digit c ≡ true → (float_scan_step 0 c ≡ 1) × (float_scan_step 1 c ≡ 1) × (float_scan_step 5 c ≡ 6) × (float_scan_step 6 c ≡ 6)
steps c e = (rw e refl, rw e refl, rw e refl, rw e refl)

whole_part : (ds rest : List ℕ) → AllDigits 10 ds → completes_number 1 (ds ++ rest) ≡ completes_number 1 rest
whole_part [] rest h = refl
whole_part (c ∷ cs) rest h = ap (λ (s : ℕ). completes_number s (cs ++ rest)) (steps c (digit c h.0)).1 ∙ whole_part cs rest h.1

exponent : (ds : List ℕ) → AllDigits 10 ds → completes_number 6 ds ≡ true
exponent [] h = refl
exponent (c ∷ cs) h = ap (λ (s : ℕ). completes_number s cs) (steps c (digit c h.0)).3 ∙ exponent cs h.1

whole_exponent : (es : List ℕ) → AllDigits 10 es → 0 < length es → completes_number 5 es ≡ true
whole_exponent [] k more = absurd (omega arith)
whole_exponent (c ∷ cs) k more = ap (λ (s : ℕ). completes_number s cs) (steps c (digit c k.0)).2 ∙ exponent cs k.1

number : (ds es : List ℕ) → AllDigits 10 ds → 0 < length ds → AllDigits 10 es → 0 < length es → completes_number 0 (ds ++ 101 ∷ 45 ∷ es) ≡ true
number [] es h some k more = absurd (omega arith)
number (c ∷ cs) es h some k more =
    ap (λ (s : ℕ). completes_number s (cs ++ 101 ∷ 45 ∷ es)) (steps c (digit c h.0)).0 ∙ whole_part cs (101 ∷ 45 ∷ es) h.1 ∙ whole_exponent es k more

above : (ds es : List ℕ) → AllDigits 10 ds → 0 < length ds → AllDigits 10 es → 0 < length es → is_float_text (ds ++ 101 ∷ 45 ∷ es) ≡ true
above [] es h some k more = absurd (omega arith)
above (c ∷ cs) es h some k more =
    let r = digit_from_value c h.0 in
    rw (not_equal c 43 (omega arith), not_equal c 45 (omega arith), number (c ∷ cs) es h some k more) refl

below : (ds es : List ℕ) → AllDigits 10 ds → 0 < length ds → AllDigits 10 es → 0 < length es → is_float_text (45 ∷ ds ++ 101 ∷ 45 ∷ es) ≡ true
below ds es h some k more = rw (number ds es h some k more) refl

with_units : (z : ℤ) (p : ℕ) → unsigned_abs z < 10 ^ 64 → p < 10 ^ 64 → is_float_text (signed_decimal z ++ 101 ∷ 45 ∷ decimal p) ≡ true
with_units (pos n) p a b =
    let d = decimal_is_IsNumeral_wide n a in
    let e = decimal_is_IsNumeral_wide p b in
    above (decimal n) (decimal p) d.0.1 d.0.0 e.0.1 e.0.0
with_units (negsuc n) p a b =
    let d = decimal_is_IsNumeral_wide (suc n) a in
    let e = decimal_is_IsNumeral_wide p b in
    below (decimal (suc n)) (decimal p) d.0.1 d.0.0 e.0.1 e.0.0

abs_below : (z : ℤ) → negsuc (10 ^ 36 - 1) <ℤ z → z <ℤ pos (10 ^ 36) → unsigned_abs z < 10 ^ 64
abs_below (pos n) a b = omega (arith, ints)
abs_below (negsuc n) a b = omega (arith, ints)

pub float_text : (n : Number) → IsNumber n → is_float_text (spelled n) ≡ true
float_text n is = with_units n.units n.places (abs_below n.units is.above is.below) (omega (arith, is.places))
