-- Digits before and after a point, and which of them are shown.
use Rattle.std.proofs.Common.{◌≡◌, ◌≢◌, ℕ, zero, suc, ◌+◌, ◌-◌, ◌*◌, ◌/◌, ◌%◌, ◌^◌, ◌<◌, ◌≤◌, List, [], ◌∷◌, ◌++◌, length, take, drop, set, refl, sym, ap, ◌∙◌, subst, arith, append_assoc}
use Rattle.std.proofs.Math.Nat.{pow-suc, one-le-pow, div-div-eq-div-mul, mul-div-mul_right, mul-mod_left, mul_assoc, mul-add-mod_self_right, mul-add-div_right, mod-eq_of_lt}
use Rattle.std.proofs.Math.Seq.{take-append-add}
use Rattle.std.proofs.lemmas.List.{length-set, length-take-le, take-append-le, take-take, take_all, take_more_set}
use Rattle.std.proofs.lemmas.Nat.{div-add-mod', pow-add}
use Rattle.std.specs.Int.{bytes_low_first}
use Rattle.byteorder.proofs.Bytes.{take-bytes_low_first}
use borrow.Rule.Slice.PartMut.{mid_of, post_of, put_mid}
use Rattle.comtrade_values.specs.Written.{padded}
use Rattle.comtrade_format.specs.Places.{IsShown, WritesPlaces, places_text}
use Rattle.comtrade_format.proofs.Places.{stored}
use Rattle.comtrade_values.proofs.Digits.{padded_two, padded_pair, padded_four, padded_more}
use Rattle.comtrade_format.proofs.PointedValues.{length_padded}

-- ---- digits as bytes

four_bytes : (a b c d x : ℕ) → a < 256 → b < 256 → c < 256 → d < 256 → x ≡ (a + 256 * b) + 65_536 * (c + 256 * d) → bytes_low_first 0 4 x ≡ a ∷ b ∷ c ∷ d ∷ []
four_bytes a b c d x la lb lc ld is =
    let e0 : x % 256 ≡ a = omega arith in
    let e1 : x / 256 % 256 ≡ b = omega arith in
    let e2 : x / 65_536 % 256 ≡ c = omega arith in
    let e3 : x / 16_777_216 % 256 ≡ d = omega arith in
    rw (e0, e1, e2, e3) refl

pub four_digits : (n x high low : ℕ) → n < 10_000 → high ≡ (48 + n / 100 / 10) + 256 * (48 + n / 100 % 10) → low ≡ (48 + n % 100 / 10) + 256 * (48 + n % 100 % 10)
    → x ≡ high + 65_536 * low → bytes_low_first 0 4 x ≡ padded 4 n
four_digits n x high low few h l is =
    let both = padded_four n few in
    let first = padded_two (n / 100) (omega arith) in
    let last = padded_two (n % 100) (omega arith) in
    let bytes = four_bytes (48 + n / 100 / 10) (48 + n / 100 % 10) (48 + n % 100 / 10) (48 + n % 100 % 10) x (omega arith) (omega arith) (omega arith) (omega arith) (rw (is, h, l) refl) in
    bytes ∙ sym (rw (both, first, last) refl)

eight_bytes : (h l x : ℕ) → h < 2 ^ 32 → x ≡ h + 4_294_967_296 * l → bytes_low_first 0 8 x ≡ bytes_low_first 0 4 h ++ bytes_low_first 0 4 l
eight_bytes h l x few is =
    let e0 : x % 256 ≡ h % 256 = omega arith in
    let e1 : x / 256 % 256 ≡ h / 256 % 256 = omega arith in
    let e2 : x / 65_536 % 256 ≡ h / 65_536 % 256 = omega arith in
    let e3 : x / 16_777_216 % 256 ≡ h / 16_777_216 % 256 = omega arith in
    let e4 : x / 4_294_967_296 % 256 ≡ l % 256 = omega arith in
    let e5 : x / 1_099_511_627_776 % 256 ≡ l / 256 % 256 = omega arith in
    let e6 : x / 281_474_976_710_656 % 256 ≡ l / 65_536 % 256 = omega arith in
    let e7 : x / 72_057_594_037_927_936 % 256 ≡ l / 16_777_216 % 256 = omega arith in
    rw (e0, e1, e2, e3, e4, e5, e6, e7) refl

-- four more digits
padded_apart : (k n : ℕ) → n < 2 ^ 64 → padded (suc (suc (suc (suc (suc k))))) n ≡ padded (suc k) (n / 10_000) ++ padded 4 (n % 10_000)
padded_apart k n fits =
    let a = padded_pair (suc (suc k)) n fits in
    let b = padded_pair k (n / 100) (omega arith) in
    let c = padded_four (n % 10_000) (omega arith) in
    let q : n / 100 / 100 ≡ n / 10_000 = omega arith in
    let t : n % 10_000 / 100 ≡ n / 100 % 100 = omega arith in
    let o : n % 10_000 % 100 ≡ n % 100 = omega arith in
    rw (a, b, c, q, t, o) (append_assoc (padded (suc k) (n / 10_000)) (padded 2 (n / 100 % 100)) (padded 2 (n % 100)))

pub eight_digits : (n h l x : ℕ) → n < 100_000_000 → bytes_low_first 0 4 h ≡ padded 4 (n / 10_000) → h < 2 ^ 32 → bytes_low_first 0 4 l ≡ padded 4 (n % 10_000)
    → x ≡ h + 4_294_967_296 * l → bytes_low_first 0 8 x ≡ padded 8 n
eight_digits n h l x few eh small el is =
    eight_bytes h l x small is
    ∙ ap (λ (a : List ℕ). a ++ bytes_low_first 0 4 l) eh
    ∙ ap (λ (b : List ℕ). padded 4 (n / 10_000) ++ b) el
    ∙ sym (padded_apart 3 n (omega arith))

sixteen_digits : (h l : ℕ) → h < 100_000_000 → l < 100_000_000 → padded 16 (h * 100_000_000 + l) ≡ padded 8 h ++ padded 8 l
sixteen_digits h l fh fl =
    let n : ℕ = h * 100_000_000 + l in
    let a = padded_apart 11 n (omega arith) in
    let b = padded_apart 7 (n / 10_000) (omega arith) in
    let c = padded_apart 3 l (omega arith) in
    let q : n / 10_000 / 10_000 ≡ h = omega arith in
    let t : n / 10_000 % 10_000 ≡ l / 10_000 = omega arith in
    let o : n % 10_000 ≡ l % 10_000 = omega arith in
    rw (a, b, c, q, t, o) (append_assoc (padded 8 h) (padded 4 (l / 10_000)) (padded 4 (l % 10_000)))

-- ---- the first digits of a number

ten_more : (j : ℕ) → 10 * 10 ^ j ≡ 10 ^ suc j
ten_more j = omega (arith, pow-suc 10 j)

front_places : (j k n : ℕ) → n < 10 ^ (j + suc k) → n < 2 ^ 64 → take (suc k) (padded (j + suc k) n) ≡ padded (suc k) (n / 10 ^ j)
front_places zero k n few fits =
    let one : n / 1 ≡ n = omega arith in
    let e : 0 + suc k ≡ suc k = omega arith in
    let len = length_padded k n (subst (λ (d : ℕ). n < 10 ^ d) e few) fits in
    ap (λ (d : ℕ). take (suc k) (padded d n)) e ∙ take_all (suc k) (padded (suc k) n) (omega (arith, len)) ∙ sym (ap (padded (suc k)) one)
front_places (suc j) k n few fits =
    let whole : suc j + suc k ≡ suc (j + suc k) = omega arith in
    let small : n < 10 ^ suc (j + suc k) = subst (λ (d : ℕ). n < 10 ^ d) whole few in
    let e : j + suc k ≡ suc (j + k) = omega arith in
    let unit : 10 * 10 ^ (j + suc k) ≡ 10 ^ suc (j + suc k) = ten_more (j + suc k) in
    let below : n / 10 < 10 ^ (j + suc k) = omega (arith, unit, small) in
    let last : List ℕ = (48 + n % 10) ∷ [] in
    let more : padded (suc (j + suc k)) n ≡ padded (j + suc k) (n / 10) ++ last =
    ap (λ (d : ℕ). padded (suc d) n) e ∙ padded_more (j + k) n fits ∙ ap (λ (d : ℕ). padded d (n / 10) ++ last) (sym e) in
    let len : length (padded (suc (j + k)) (n / 10)) ≡ suc (j + k) = length_padded (j + k) (n / 10) (subst (λ (d : ℕ). n / 10 < 10 ^ d) e below) (omega arith) in
    let enough : suc k ≤ length (padded (j + suc k) (n / 10)) = subst (λ (d : ℕ). suc k ≤ length (padded d (n / 10))) (sym e) (omega (arith, len)) in
    let tens : n / 10 / 10 ^ j ≡ n / 10 ^ suc j = div-div-eq-div-mul n 10 (10 ^ j) ∙ ap (λ (p : ℕ). n / p) (ten_more j) in
    ap (λ (d : ℕ). take (suc k) (padded d n)) whole
    ∙ ap (take (suc k)) more
    ∙ take-append-le (suc k) (padded (j + suc k) (n / 10)) last enough
    ∙ front_places j k (n / 10) below (omega arith)
    ∙ ap (padded (suc k)) tens

-- ---- how many are shown

pub shown_at : (digits n k unit : ℕ) → 10 ^ (digits - k) ≡ unit → k ≤ digits → n % unit ≡ 0 → (k ≢ 0 → n / unit % 10 ≢ 0) → IsShown digits n k
shown_at digits n k unit e within zeros last = record {
  within = within;
  zeros = ap (λ (u : ℕ). n % u) e ∙ zeros;
  last = λ some h. last some (ap (λ (u : ℕ). n / u % 10) (sym e) ∙ h);
}

shown_some : (digits n k : ℕ) → IsShown digits n k → n < 10 ^ digits → 0 < n → k ≢ 0
shown_some digits n zero s few some =
    λ h.
    let e : digits ≡ digits - 0 = omega arith in
    let none : n ≡ 0 = sym (mod-eq_of_lt few) ∙ ap (λ (d : ℕ). n % 10 ^ d) e ∙ s.zeros in
    omega arith
shown_some digits n (suc k) s few some = λ h. omega (arith, h)

-- the whole of a number without a rest
pub no_rest : (n v : ℕ) → n % v ≡ 0 → n / v * v ≡ n
no_rest n v h = omega (arith, div-add-mod' n v, h)

-- zeros after it
unit_after : (digits more k : ℕ) → k ≤ digits → 10 ^ (digits + more - k) ≡ 10 ^ (digits - k) * 10 ^ more
unit_after digits more k h =
    let gap : digits + more - k ≡ (digits - k) + more = omega arith in
    ap (λ (e : ℕ). 10 ^ e) gap ∙ pow-add 10 (digits - k) more

tens : (k : ℕ) → 0 < 10 ^ k
tens k = one-le-pow k 10 (omega arith)

same_quotient : (digits more n k : ℕ) → k ≤ digits → n * 10 ^ more / 10 ^ (digits + more - k) ≡ n / 10 ^ (digits - k)
same_quotient digits more n k h =
    ap (λ (u : ℕ). n * 10 ^ more / u) (unit_after digits more k h) ∙ mul-div-mul_right n (10 ^ (digits - k)) (tens more)

pub shown_high : (digits more n k : ℕ) → IsShown digits n k → IsShown (digits + more) (n * 10 ^ more) k
shown_high digits more n k s =
    let v : ℕ = 10 ^ (digits - k) in
    let m : ℕ = 10 ^ more in
    let whole : n * m ≡ n / v * (v * m) = ap (λ (x : ℕ). x * m) (sym (no_rest n v s.zeros)) ∙ mul_assoc (n / v) v m in
    record {
      within = omega (arith, s.within);
      zeros = ap (λ (u : ℕ). n * m % u) (unit_after digits more k s.within) ∙ ap (λ (x : ℕ). x % (v * m)) whole ∙ mul-mod_left (n / v) (v * m);
      last = λ some h. s.last some (ap (λ (x : ℕ). x % 10) (sym (same_quotient digits more n k s.within)) ∙ h);
    }

-- digits before it
unit_before : (digits k : ℕ) → k ≤ digits → 10 ^ digits ≡ 10 ^ k * 10 ^ (digits - k)
unit_before digits k h =
    let whole : digits ≡ k + (digits - k) = omega arith in
    ap (λ (e : ℕ). 10 ^ e) whole ∙ pow-add 10 k (digits - k)

before_last : (high k y : ℕ) → (high * 10 ^ suc k + y) % 10 ≡ y % 10
before_last high k y =
    let ten : high * 10 ^ suc k ≡ high * 10 ^ k * 10 = ap (λ (p : ℕ). high * p) (pow-suc 10 k) ∙ sym (mul_assoc high (10 ^ k) 10) in
    ap (λ (x : ℕ). (x + y) % 10) ten ∙ mul-add-mod_self_right (high * 10 ^ k) 10 y

pub shown_low : (above digits n high k : ℕ) → IsShown digits n k → k ≢ 0 → IsShown (above + digits) (high * 10 ^ digits + n) (above + k)
shown_low above digits n high zero s some = absurd (some refl)
shown_low above digits n high (suc k) s some =
    let v : ℕ = 10 ^ (digits - suc k) in
    let gap : above + digits - (above + suc k) ≡ digits - suc k = omega arith in
    let front : high * 10 ^ digits ≡ high * 10 ^ suc k * v = ap (λ (p : ℕ). high * p) (unit_before digits (suc k) s.within) ∙ sym (mul_assoc high (10 ^ suc k) v) in
    let quotient : (high * 10 ^ digits + n) / 10 ^ (above + digits - (above + suc k)) ≡ high * 10 ^ suc k + n / v =
    ap (λ (g : ℕ). (high * 10 ^ digits + n) / 10 ^ g) gap ∙ ap (λ (x : ℕ). (x + n) / v) front ∙ mul-add-div_right (tens (digits - suc k)) (high * 10 ^ suc k) n in
    record {
      within = omega (arith, s.within);
      zeros = ap (λ (g : ℕ). (high * 10 ^ digits + n) % 10 ^ g) gap ∙ ap (λ (x : ℕ). (x + n) % v) front ∙ mul-add-mod_self_right (high * 10 ^ suc k) v n ∙ s.zeros;
      last = λ _ h. s.last some (sym (before_last high k (n / v)) ∙ ap (λ (x : ℕ). x % 10) (sym quotient) ∙ h);
    }

-- ---- what is written

-- a point in its place
point_at : (at : ℕ) (slot : List ℕ) → at < length slot → take (at + 1) (set slot at 46) ≡ take at slot ++ 46 ∷ []
point_at at slot h = take_more_set slot at 46 h

cut_at : (at n m : ℕ) (old new tail : List ℕ) → at ≤ length old → n ≤ m → take (at + m) new ≡ take at old ++ tail → take (at + n) new ≡ take at old ++ take n tail
cut_at at n m old new tail room less e =
    let lf : length (take at old) ≡ at = length-take-le at old room in
    sym (take-take (at + n) (at + m) new (omega arith))
    ∙ ap (take (at + n)) e
    ∙ ap (λ (k : ℕ). take (k + n) (take at old ++ tail)) (sym lf)
    ∙ take-append-add (take at old) tail n

pub written : (digits n count at end : ℕ) (old new : List ℕ) → at ≤ length old → n < 10 ^ digits → n < 2 ^ 64 → IsShown digits n count
    → take (at + suc digits) new ≡ take at old ++ 46 ∷ padded digits n → (count ≡ 0 → end ≡ at) → (count ≢ 0 → end ≡ at + suc count) → WritesPlaces old new at end digits n
written digits n zero at end old new room few fits s e none some =
    let here : end ≡ at + 0 = none refl ∙ omega arith in
    record { count = 0; shown = s; longest = omega (arith, here); text = ap (λ (m : ℕ). take m new) here ∙ cut_at at 0 (suc digits) old new (46 ∷ padded digits n) room (omega arith) e }
written digits n (suc k) at end old new room few fits s e none some =
    let j : ℕ = digits - suc k in
    let whole : j + suc k ≡ digits = omega (arith, s.within) in
    let cut : take (at + suc (suc k)) new ≡ take at old ++ 46 ∷ take (suc k) (padded digits n) =
    cut_at at (suc (suc k)) (suc digits) old new (46 ∷ padded digits n) room (omega (arith, s.within)) e in
    let first : take (suc k) (padded digits n) ≡ padded (suc k) (n / 10 ^ j) =
    ap (λ (d : ℕ). take (suc k) (padded d n)) (sym whole) ∙ front_places j k n (subst (λ (d : ℕ). n < 10 ^ d) (sym whole) few) fits in
    record {
      count = suc k;
      shown = s;
      longest = omega (arith, s.within, some (λ h. omega (arith, h)));
      text = ap (λ (m : ℕ). take m new) (some (λ h. omega (arith, h))) ∙ cut ∙ ap (λ (r : List ℕ). take at old ++ 46 ∷ r) first;
    }

-- after the point: the digits that follow it
after_point : (at n : ℕ) (old mid new digits : List ℕ) → take (at + 1) mid ≡ take at old ++ 46 ∷ [] → take (at + 1 + n) new ≡ take (at + 1) mid ++ digits → take (at + suc n) new ≡ take at old ++ 46 ∷ digits
after_point at n old mid new digits point e =
    let place : at + suc n ≡ at + 1 + n = omega arith in
    ap (λ (m : ℕ). take m new) place ∙ e ∙ ap (λ (front : List ℕ). front ++ digits) point ∙ append_assoc (take at old) (46 ∷ []) digits

-- a point, and then x, which has the digits of n first
pub point_stored : (digits : ℕ) (slot buf : List ℕ) (at x n : ℕ) → digits ≤ 8 → at + 9 ≤ length slot → bytes_low_first 0 digits x ≡ padded digits n
    → buf ≡ bytes_low_first 0 8 x ++ drop 8 (mid_of (at + 1) (length (set slot at 46) - (at + 1)) (set slot at 46))
    → take (at + suc digits) (put_mid (at + 1) (length (set slot at 46) - (at + 1)) (set slot at 46) buf) ≡ take at slot ++ 46 ∷ padded digits n
point_stored digits slot buf at x n most room is eb =
    let dotted : List ℕ = set slot at 46 in
    let left = length dotted - (at + 1) in
    let bs = bytes_low_first 0 8 x in
    let len : length dotted ≡ length slot = length-set slot at 46 in
    let after : take (at + 1 + digits) (put_mid (at + 1) left dotted buf) ≡ take (at + 1) dotted ++ padded digits n =
    rw eb
    (stored dotted bs (drop 8 (mid_of (at + 1) left dotted)) (post_of (at + 1) left dotted) (at + 1) digits (omega (arith, len)) (omega (arith, most))
    ∙ ap (λ (r : List ℕ). take (at + 1) dotted ++ r) (take-bytes_low_first 0 8 digits x most ∙ is)) in
    after_point at digits slot dotted _ _ (point_at at slot (omega arith)) after

-- eight digits more
pub after_eight : (at h l : ℕ) (old mid new : List ℕ) → h < 100_000_000 → l < 100_000_000 → take (at + 9) mid ≡ take at old ++ 46 ∷ padded 8 h → take (at + 9 + 8) new ≡ take (at + 9) mid ++ padded 8 l
    → take (at + 17) new ≡ take at old ++ 46 ∷ padded 16 (h * 100_000_000 + l)
after_eight at h l old mid new fh fl first e =
    let place : at + 17 ≡ at + 9 + 8 = omega arith in
    ap (λ (m : ℕ). take m new) place
    ∙ e
    ∙ ap (λ (front : List ℕ). front ++ padded 8 l) first
    ∙ append_assoc (take at old) (46 ∷ padded 8 h) (padded 8 l)
    ∙ ap (λ (r : List ℕ). take at old ++ 46 ∷ r) (sym (sixteen_digits h l fh fl))

pub shown_last : (high low count : ℕ) → low < 100_000_000 → 0 < low → IsShown 8 low count → IsShown 16 (high * 100_000_000 + low) (8 + count)
shown_last high low count few some s = shown_low 8 8 low high count s (shown_some 8 low count s few some)

-- zeros after the digits
pub widened : (digits more n m at end : ℕ) (old new : List ℕ) → n * 10 ^ more ≡ m → WritesPlaces old new at end digits n → WritesPlaces old new at end (digits + more) m
widened digits more n m at end old new e w = record {
  count = w.count;
  shown = subst (λ (x : ℕ). IsShown (digits + more) x w.count) e (shown_high digits more n w.count w.shown);
  longest = omega (arith, w.longest);
  text = w.text ∙ ap (λ (x : ℕ). take at old ++ places_text w.count x) (sym (same_quotient digits more n w.count w.shown.within) ∙ ap (λ (x : ℕ). x / 10 ^ (digits + more - w.count)) e);
}

pub shown_four_last : (n last count : ℕ) → last ≡ n % 10_000 → (last ≡ 0 → ⊥) → IsShown 4 last count → IsShown 8 n (4 + count)
shown_four_last n last count is some s =
    let whole : n / 10_000 * 10_000 + last ≡ n = omega arith in
    subst (λ (x : ℕ). IsShown 8 x (4 + count)) whole (shown_low 4 4 last (n / 10_000) count s (shown_some 4 last count s (omega arith) (omega (arith, some))))

pub shown_four_first : (n count : ℕ) → n % 10_000 ≡ 0 → IsShown 4 (n / 10_000) count → IsShown 8 n count
shown_four_first n count zeros s =
    let whole : n / 10_000 * 10_000 ≡ n = omega arith in
    subst (λ (x : ℕ). IsShown 8 x count) whole (shown_high 4 4 (n / 10_000) count s)
