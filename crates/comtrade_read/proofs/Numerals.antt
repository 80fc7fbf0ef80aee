-- Numbers that are written are read.
use Rattle.std.proofs.Common.{◌≡◌, ℕ, zero, suc, ◌+◌, ◌-◌, ◌*◌, ◌<◌, ◌≤◌, ◌^◌, Bool, true, false, cond, ltb, leb, eqb, List, [], ◌∷◌, ◌++◌, length, get_or, take, drop, Some, refl, sym, ap, ◌∙◌, arith, length-append, length-drop}
use Rattle.std.specs.Prelude.{ℤ, pos, negsuc, neg_ℤ, ◌<ℤ◌, unsigned_abs, position, is_some}
use Rattle.std.specs.Char.{digit_value}
use Rattle.std.specs.Str.Parse.{AllDigits, IsNumeral, digits_value, without_leading_sign, starts_with_minus}
use Rattle.std.specs.List.{position_or_len, before_first, after_first, AllByRecursion, repeat}
use Rattle.std.specs.Fmt.{signed_decimal, decimal}
use Rattle.std.proofs.lemmas.Fmt.{decimal_is_IsNumeral_wide, length-decimal-le_wide}
use Rattle.std.proofs.lemmas.Str.Parse.{digit_at}
use Rattle.std.proofs.lemmas.List.{take_all, take_at, drop_all, drop_at, drop-drop, append-nil, take-append-drop, length-take, get_or_at, get_or_append_left}
use Rattle.std.proofs.lemmas.List.Elements.{All-from_recursion}
use Rattle.std.proofs.lemmas.List.Sums.{position_or_len_is}
use Rattle.jiff_core.proofs.SignedLemmas.{signed_arith, one_part}
use Rattle.std.proofs.lemmas.Bool.{lt-ltb, le-ltb, le-leb, and_from}
use Rattle.std.proofs.lemmas.Bool.Decides.{nat_tests}
use Rattle.comtrade_values.specs.Spelling.{whole_number, decimal_number, number, is_numeral, is_point, is_exponent_mark, Number, IsNumber}
use Rattle.comtrade_values.specs.Written.{filled, padded, with_point, pointed, minus, decimal_text}
use Rattle.comtrade_read.proofs.AllOf.{All-append, All-parts, All-digits}
use Rattle.comtrade_read.proofs.Digits.{digits_tested}

abbrev IsDigit : ℕ → Type 0
IsDigit c = digit_value c < 10

numeral_tested : (ds : List ℕ) → IsNumeral 10 ds → is_numeral ds ≡ true
numeral_tested ds h = and_from _ _ (lt-ltb 0 (length ds) h.0) (digits_tested ds h.1)

-- digits begin with no sign
no_sign : (ds : List ℕ) → AllDigits 10 ds → 0 < length ds → (eqb (get_or ds 0 0) 45 ≡ false) × (eqb (get_or ds 0 0) 43 ≡ false)
no_sign ds h some =
    let r = digit_at ds 0 h some in
    (grind (arith, nat_tests), grind (arith, nat_tests))

pub whole_again : (z : ℤ) → unsigned_abs z < 10 ^ 36 → whole_number (signed_decimal z) ≡ Some z
whole_again (pos n) small =
    let d = decimal_is_IsNumeral_wide n (omega arith) in
    let sign = no_sign (decimal n) d.0.1 d.0.0 in
    rw (sign.0, sign.1, numeral_tested (decimal n) d.0, d.1, lt-ltb n (10 ^ 36) small) refl
whole_again (negsuc n) small =
    let d = decimal_is_IsNumeral_wide (suc n) (omega arith) in
    rw (numeral_tested (decimal (suc n)) d.0, d.1, lt-ltb (suc n) (10 ^ 36) small) refl

-- ---- a text cut at the first byte that passes

abbrev pub Fails : (ℕ → Bool) → List ℕ → Type 0
Fails p xs = AllByRecursion (λ x. p x ≡ false) xs

pub place_at : (p : ℕ → Bool) (xs : List ℕ) (c : ℕ) (ys : List ℕ) → Fails p xs → p c ≡ true → position_or_len p (xs ++ c ∷ ys) ≡ length xs
place_at p xs c ys h t =
    let before = λ (k : ℕ) (lt : k < length xs). All-from_recursion (λ x. p x ≡ false) xs h k 0 lt in
    position_or_len_is p (xs ++ c ∷ ys) (length xs) 0 (omega (arith, length-append xs (c ∷ ys)))
    (λ k lt. rw (get_or_append_left xs (c ∷ ys) 0 k lt) (before k lt))
    (λ lt. rw (get_or_at xs c ys 0 (length xs) refl) t)

-- a text in which none passes isn't cut
uncut : (p : ℕ → Bool) (xs : List ℕ) → Fails p xs → (is_some (position p xs) ≡ false) × (before_first p xs ≡ xs) × (after_first p xs ≡ [])
uncut p xs h =
    let n = position_or_len_is p xs (length xs) 0 (omega arith) (λ k lt. All-from_recursion (λ x. p x ≡ false) xs h k 0 lt) (λ lt. absurd (omega arith)) in
    let over : ltb (length xs) (length xs) ≡ false = le-ltb _ _ (omega arith) in
    (rw (n, over) refl, rw n (take_all (length xs) xs (omega arith)), rw n (drop_all (length xs + 1) xs (omega arith)))

pub record CutAt (p : ℕ → Bool) (xs : List ℕ) (c : ℕ) (ys : List ℕ) : Type 0 where
  pub there : is_some (position p (xs ++ c ∷ ys)) ≡ true
  pub front : before_first p (xs ++ c ∷ ys) ≡ xs
  pub back : after_first p (xs ++ c ∷ ys) ≡ ys

pub cut_at : (p : ℕ → Bool) (xs : List ℕ) (c : ℕ) (ys : List ℕ) → Fails p xs → p c ≡ true → CutAt p xs c ys
cut_at p xs c ys f t =
    let n = place_at p xs c ys f t in
    let less : ltb (length xs) (length (xs ++ c ∷ ys)) ≡ true = lt-ltb (length xs) (length (xs ++ c ∷ ys)) (omega (arith, length-append xs (c ∷ ys))) in
    let rest : drop 1 (drop (length xs) (xs ++ c ∷ ys)) ≡ ys = ap (drop 1) (drop_at xs (c ∷ ys) (length xs) refl) in
    record {
      there = rw (n, less) refl;
      front = rw n (take_at xs (c ∷ ys) (length xs) refl);
      back = rw n (sym (drop-drop 1 (length xs) (xs ++ c ∷ ys)) ∙ rest);
    }

-- ---- a decimal without an exponent

-- a minus or nothing
abbrev pub sign_text : Bool → List ℕ
sign_text true = 45 ∷ []
sign_text false = []

-- the fraction after its point, or nothing
abbrev pub point_text : List ℕ → List ℕ
point_text [] = []
point_text (d ∷ ds) = 46 ∷ d ∷ ds

-- what holds of digits, of a minus and of a point, holds of every byte
pub decimal_all : (P : ℕ → Type 0) → ((c : ℕ) → 48 ≤ c → c ≤ 57 → P c) → P 45 → P 46 → (s : Bool) (ws fs : List ℕ) → AllDigits 10 ws → AllDigits 10 fs → AllByRecursion P (sign_text s ++ (ws ++ point_text fs))
decimal_all P digit sign point s ws fs h k = All-append P (sign_text s) (ws ++ point_text fs) (front s) (All-append P ws (point_text fs) (All-digits P digit ws h) (back fs k))
  where
    front : (s : Bool) → AllByRecursion P (sign_text s)
    front true = (sign, tt)
    front false = tt

    back : (fs : List ℕ) → AllDigits 10 fs → AllByRecursion P (point_text fs)
    back [] k = tt
    back (f ∷ fs) k = (point, All-digits P digit (f ∷ fs) k)

-- the sign is taken off
sign_off : (minus : Bool) (ds ts : List ℕ) → AllDigits 10 ds → 0 < length ds → (starts_with_minus (sign_text minus ++ (ds ++ ts)) ≡ minus) × (without_leading_sign (sign_text minus ++ (ds ++ ts)) ≡ ds ++ ts)
sign_off true ds ts h some = (refl, refl)
sign_off false [] ts h some = absurd (omega arith)
sign_off false (d ∷ ds) ts h some =
    let s = no_sign (d ∷ ds) h (omega arith) in
    (s.0, rw (s.0, s.1) refl)

no_point : (ds : List ℕ) → AllDigits 10 ds → Fails is_point ds
no_point ds h = All-digits (λ c. is_point c ≡ false) (λ c low high. grind (arith, nat_tests)) ds h

-- the point is found
parts : (ws fs : List ℕ) → AllDigits 10 ws → (before_first is_point (ws ++ point_text fs) ≡ ws) × (after_first is_point (ws ++ point_text fs) ≡ fs)
parts ws [] h = let u = uncut is_point ws (no_point ws h) in rw (append-nil ws) (u.1, u.2)
parts ws (f ∷ fs) h = let c = cut_at is_point ws 46 (f ∷ fs) (no_point ws h) refl in (c.front, c.back)

plain_read : (minus : Bool) (ws fs : List ℕ) → AllDigits 10 ws → AllDigits 10 fs → 0 < length ws
    → decimal_number (sign_text minus ++ (ws ++ point_text fs)) ≡ number minus (digits_value 10 (ws ++ fs), length fs)
plain_read minus ws fs h k some =
    let t = sign_text minus ++ (ws ++ point_text fs) in
    let f = uncut is_exponent_mark t (decimal_all (λ c. is_exponent_mark c ≡ false) (λ c low high. grind (arith, nat_tests)) refl refl minus ws fs h k) in
    let s = sign_off minus ws (point_text fs) h some in
    let p = parts ws fs h in
    let d = numeral_tested (ws ++ fs) (omega (arith, length-append ws fs), All-append IsDigit ws fs h k) in
    let no_zeros : 0 - length fs ≡ 0 = omega arith in
    let one : digits_value 10 (ws ++ fs) * 1 ≡ digits_value 10 (ws ++ fs) = omega arith in
    let all : length fs - 0 ≡ length fs = omega arith in
    rw (f.0, f.1, s.1, s.0, p.0, p.1, d, no_zeros, one, all) refl

-- ---- digits with zeros in front

-- so many digits of this value
pub record Filled (n x : ℕ) (ds : List ℕ) : Type 0 where
  pub digits : AllDigits 10 ds
  pub long : length ds ≡ n
  pub value : digits_value 10 ds ≡ x

zeros : (k : ℕ) (ds : List ℕ) → AllDigits 10 ds → Filled (k + length ds) (digits_value 10 ds) (repeat k (48 ∷ []) ++ ds)
zeros zero ds h = record { digits = h; long = omega arith; value = refl }
zeros (suc k) ds h = let z = zeros k ds h in record { digits = (omega arith, z.digits); long = omega (arith, z.long); value = z.value }

filled_is : (n : ℕ) (ds : List ℕ) → AllDigits 10 ds → Filled (n - length ds + length ds) (digits_value 10 ds) (filled n ds)
unfolding filled
filled_is n ds h = zeros (n - length ds) ds h

pub padded_is : (n x : ℕ) → 0 < n → x < 10 ^ n → x < 10 ^ 64 → Filled n x (padded n x)
unfolding padded
padded_is n x some lt wide =
    let d = decimal_is_IsNumeral_wide x wide in
    let short = length-decimal-le_wide n x some lt wide in
    let f = filled_is n (decimal x) d.0.1 in
    record { digits = f.digits; long = omega (arith, f.long); value = f.value ∙ d.1 }

-- ---- a decimal that was written

sign_is : (u : ℤ) → (s : Bool) × ((minus u ≡ sign_text s) × (cond s (neg_ℤ (pos (unsigned_abs u))) (pos (unsigned_abs u)) ≡ u))
sign_is (pos n) = (false, (refl, refl))
sign_is (negsuc n) = (true, (refl, refl))

-- digits before the point and after it
record Pointed (places : ℕ) (ds text : List ℕ) : Type 0 where
  ws : List ℕ
  fs : List ℕ
  is : text ≡ ws ++ point_text fs
  front : AllDigits 10 ws
  back : AllDigits 10 fs
  some : 0 < length ws
  long : length fs ≡ places
  value : digits_value 10 (ws ++ fs) ≡ digits_value 10 ds

pointed_is : (places : ℕ) (ds : List ℕ) → AllDigits 10 ds → 0 < length ds → Pointed places ds (pointed places ds)
unfolding pointed with_point
pointed_is zero ds h some = record { ws = ds; fs = []; is = sym (append-nil ds); front = h; back = tt; some = some; long = refl; value = ap (digits_value 10) (append-nil ds) }
pointed_is (suc p) ds h some =
    let xs = filled (suc p + 1) ds in
    let f = filled_is (suc p + 1) ds h in
    let l = f.long in
    let n = length xs - suc p in
    let whole : take n xs ++ drop n xs ≡ xs = take-append-drop n xs in
    let all : AllDigits 10 (take n xs) × AllDigits 10 (drop n xs) = All-parts IsDigit (take n xs) (drop n xs) (rw whole f.digits) in
    let long : length (drop n xs) ≡ suc p = omega (arith, length-drop n xs) in
    record {
      ws = take n xs;
      fs = drop n xs;
      is = ap (λ (t : List ℕ). take n xs ++ t) (pointed_text (drop n xs) long);
      front = all.0;
      back = all.1;
      some = omega (arith, length-take n xs);
      long = long;
      value = ap (digits_value 10) whole ∙ f.value;
    }
  where
    pointed_text : (fs : List ℕ) → length fs ≡ suc p → 46 ∷ fs ≡ point_text fs
    pointed_text [] e = absurd (omega arith)
    pointed_text (f ∷ fs) e = refl

abs_small : (u : ℤ) → negsuc (10 ^ 36 - 1) <ℤ u → u <ℤ pos (10 ^ 36) → unsigned_abs u < 10 ^ 36
abs_small u a b = omega (arith, signed_arith, one_part u)

units_digits : (d : Number) → IsNumber d → IsNumeral 10 (decimal (unsigned_abs d.units)) × (digits_value 10 (decimal (unsigned_abs d.units)) ≡ unsigned_abs d.units)
units_digits d h = let small = abs_small d.units h.above h.below in decimal_is_IsNumeral_wide (unsigned_abs d.units) (omega arith)

-- what holds of digits, of a minus and of a point, holds of every byte of it
pub written_all : (P : ℕ → Type 0) → ((c : ℕ) → 48 ≤ c → c ≤ 57 → P c) → P 45 → P 46 → (d : Number) → IsNumber d → AllByRecursion P (decimal_text d)
unfolding decimal_text
written_all P digit sign point d h =
    let m = units_digits d h in
    let s = sign_is d.units in
    let p = pointed_is d.places (decimal (unsigned_abs d.units)) m.0.1 m.0.0 in
    rw (s.1.0, p.is) (decimal_all P digit sign point s.0 p.ws p.fs p.front p.back)

pub decimal_again : (d : Number) → IsNumber d → decimal_number (decimal_text d) ≡ Some d
unfolding decimal_text
decimal_again d h =
    let n = unsigned_abs d.units in
    let m = units_digits d h in
    let s = sign_is d.units in
    let p = pointed_is d.places (decimal n) m.0.1 m.0.0 in
    let value : digits_value 10 (p.ws ++ p.fs) ≡ n = p.value ∙ m.1 in
    let low : ltb n (10 ^ 36) ≡ true = lt-ltb n (10 ^ 36) (abs_small d.units h.above h.below) in
    let few : leb d.places 80 ≡ true = le-leb d.places 80 h.places in
    rw (s.1.0, p.is) (plain_read s.0 p.ws p.fs p.front p.back p.some ∙ rw (value, p.long, low, few, s.1.1) refl)
