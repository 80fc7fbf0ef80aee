-- A few digits spell a small number.
use Rattle.std.proofs.Common.{◌≡◌, ℕ, ◌+◌, ◌-◌, ◌*◌, sym, ◌∙◌, ◌<◌, ◌≤◌, ◌^◌, Bool, true, false, cond, ltb, leb, min, List, length, Option, Some, None, w8, w16, to_z, refl, ap, arith}
use Rattle.std.specs.Prelude.{◌&&◌, ℤ, pos}
use Rattle.std.specs.Str.{all_ascii_digits}
use Rattle.std.specs.Str.Parse.{AllDigits, digits_value}
use Rattle.std.proofs.lemmas.Int.Digits.{digits_value-lt}
use Rattle.std.proofs.lemmas.Int.{ints, to_z_pos}
use Rattle.std.proofs.lemmas.Grind.{common_steps}
use Rattle.std.proofs.Math.Nat.{pow-le-pow_right, mul-lt-mul_of_pos_right}
use Rattle.std.proofs.lemmas.Nat.{pow-add}
use Rattle.std.proofs.lemmas.Bool.{lt-ltb, le-leb, leb-true, and_parts, and_right, cond_both}
use Rattle.std.proofs.lemmas.Str.Parse.{numerals_by_value, tells_all_ascii_digits}
use Rattle.comtrade_values.specs.Spelling.{capped_size}
use Rattle.jiff_core.specs.Calendar.{IsDate, days_from_civil, days_in_month}
use Rattle.std.specs.Prelude.{◌↔◌, IsSome, IfSome, unsigned_abs, is_some, position}
use Rattle.std.specs.List.{before_first, after_first}
use Rattle.comtrade_read.specs.Instant.{digits, day_at, date, is_slash}

abbrev none_day : Option ℤ
none_day = None

abbrev no_size : Option ℕ
no_size = None

pub digits_from_test : (ds : List ℕ) → all_ascii_digits ds ≡ true → AllDigits 10 ds
digits_from_test ds e = (numerals_by_value _ tells_all_ascii_digits).to ds e

pub digits_tested : (ds : List ℕ) → AllDigits 10 ds → all_ascii_digits ds ≡ true
digits_tested ds h = (numerals_by_value _ tells_all_ascii_digits).from ds h

-- what a capped number says of its digits
size_some : (b : Bool) (v n : ℕ) → cond b (Some (min v (10 ^ 36))) None ≡ Some n → (b ≡ true) × (min v (10 ^ 36) ≡ n)
size_some true v n e = (refl, cc)
size_some false v n e = absurd cc

size_none : (b : Bool) (v : ℕ) → cond b (Some v) None ≡ no_size → b ≡ false
size_none true v e = absurd cc
size_none false v e = refl

pub few_digits : (low high n : ℕ) (ds : List ℕ) → high ≤ 6 → low ≤ length ds → length ds ≤ high → capped_size ds ≡ Some n → (digits low high ds ≡ Some n) × (n < 10 ^ length ds) × (n < 10 ^ high)
unfolding digits
few_digits low high n ds small some short e =
    let p = size_some (ltb 0 (length ds) && all_ascii_digits ds) (digits_value 10 ds) n e in
    let q = and_parts (ltb 0 (length ds)) (all_ascii_digits ds) p.0 in
    let below : digits_value 10 ds < 10 ^ length ds = digits_value-lt 10 ds (digits_from_test ds q.1) in
    let most : 10 ^ length ds ≤ 10 ^ high = pow-le-pow_right {n = 10} (omega arith) {i = length ds} {j = high} short in
    let top : 10 ^ high ≤ 10 ^ 6 = pow-le-pow_right {n = 10} (omega arith) {i = high} {j = 6} small in
    let same : digits_value 10 ds ≡ n = omega (arith, p.1) in
    (rw (le-leb low (length ds) some, le-leb (length ds) high short, q.1) (ap (λ (v : ℕ). Some v) same), omega arith, omega arith)

pub no_digits : (low high : ℕ) (ds : List ℕ) → 1 ≤ low → low ≤ length ds → capped_size ds ≡ None → no_size ≡ digits low high ds
unfolding digits
no_digits low high ds one some e =
    let p = size_none (ltb 0 (length ds) && all_ascii_digits ds) _ e in
    let t : all_ascii_digits ds ≡ false = rw (lt-ltb 0 (length ds) (omega arith)) at p in
    rw (t, and_right (leb low (length ds) && leb (length ds) high) false refl) refl

pub not_so_long : (low high : ℕ) (ds : List ℕ) → length ds < low → no_size ≡ digits low high ds
unfolding digits
not_so_long low high ds h = let t : leb low (length ds) ≡ false = grind (arith, common_steps) in rw t refl

pub too_long : (low high : ℕ) (ds : List ℕ) → high < length ds → no_size ≡ digits low high ds
unfolding digits
too_long low high ds h =
    let t : leb (length ds) high ≡ false = grind (arith, common_steps) in rw (t, and_right (leb low (length ds)) false refl) refl

abbrev IsCivil : Option ℤ → ℤ → ℤ → ℤ → Type 0
IsCivil r y m d = (IsSome r ↔ IsDate y m d) × IfSome r (λ n. n ≡ days_from_civil y (unsigned_abs m) (unsigned_abs d))

day_is : (y m d : ℕ) (r : Option ℤ) → 1 ≤ y → y < 10000 → IsCivil r (pos y) (pos m) (pos d) → r ≡ day_at y m d
unfolding day_at
day_is y m d (Some n) one few is =
    let date : IsDate (pos y) (pos m) (pos d) = is.0.0 refl in
    let a : 1 ≤ m = omega (arith, ints, date.1) in
    let b : m ≤ 12 = omega (arith, ints, date.1) in
    let f : 1 ≤ d = omega (arith, ints, date.2) in
    let g : d ≤ days_in_month (pos y) m = omega (arith, ints, date.2) in
    rw (le-leb 1 y one, le-leb 1 m a, le-leb m 12 b, le-leb 1 d f, le-leb d (days_in_month (pos y) m) g, is.1) refl
day_is y m d None one few is =
    let high = leb d (days_in_month (pos y) m) in
    cond_both (leb 1 y && leb 1 m && leb m 12 && leb 1 d && high) (Some (days_from_civil (pos y) m d)) None (λ o. none_day ≡ o) (λ t.
    let p = and_parts _ high t in
    let q = and_parts _ (leb 1 d) p.0 in
    let r = and_parts _ (leb m 12) q.0 in
    let s = and_parts (leb 1 y) (leb 1 m) r.0 in
    let no : false ≡ true = is.0.1 (made (leb-true 1 m s.1) (leb-true m 12 r.1) (leb-true 1 d q.1) (leb-true d (days_in_month (pos y) m) p.1)) in
    cc) (λ t. refl)
  where
    made : 1 ≤ m → m ≤ 12 → 1 ≤ d → d ≤ days_in_month (pos y) m → IsDate (pos y) (pos m) (pos d)
    made a b f g = ((omega (arith, ints), omega (arith, ints)), (omega (arith, ints), omega (arith, ints)), (omega (arith, ints), omega (arith, ints)))

pub day_found : (y m d : ℕ) (r : Option ℤ) → 1 ≤ y → y < 10000 → m < 100 → d < 100 → IsCivil r (to_z w16 y) (to_z w8 m) (to_z w8 d) → r ≡ day_at y m d
day_found y m d r one few fm fd is =
    day_is y m d r one few (rw (to_z_pos w16 y (omega arith), to_z_pos w8 m (omega arith), to_z_pos w8 d (omega arith)) at is)

-- a fraction of so many digits, in microseconds
pub micros_fit : (n k : ℕ) → k ≤ 6 → n < 10 ^ k → n * 10 ^ (6 - k) < 1000000
micros_fit n k h lt =
    let some : 10 ^ 0 ≤ 10 ^ (6 - k) = pow-le-pow_right {n = 10} (omega arith) {i = 0} {j = 6 - k} (omega arith) in
    let more : n * 10 ^ (6 - k) < 10 ^ k * 10 ^ (6 - k) = mul-lt-mul_of_pos_right lt (omega arith) in
    let six : k + (6 - k) ≡ 6 = omega arith in
    let all : 10 ^ k * 10 ^ (6 - k) ≡ 10 ^ 6 = sym (pow-add 10 k (6 - k)) ∙ ap (λ (i : ℕ). 10 ^ i) six in
    omega arith

pub date_is : (f front rest m y : List ℕ) (yy mm dd : ℕ) → is_some (position is_slash f) ≡ true → front ≡ before_first is_slash f → rest ≡ after_first is_slash f
    → is_some (position is_slash rest) ≡ true → m ≡ before_first is_slash rest → y ≡ after_first is_slash rest → digits 4 4 y ≡ Some yy → digits 1 2 m ≡ Some mm → digits 1 2 front ≡ Some dd → day_at yy mm dd ≡ date f
unfolding date
date_is f front rest m y yy mm dd one a b two e d dy dm dd' =
    rw (one, ← b, two, ← e, ← d, ← a, dy, dm, dd') refl
