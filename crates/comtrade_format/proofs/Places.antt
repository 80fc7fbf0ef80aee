-- Bytes that are written at a place in a slot, and the digits of a number as bytes.
use Rattle.std.proofs.Common.{◌≡◌, ℕ, zero, suc, ◌+◌, ◌-◌, ◌*◌, ◌/◌, ◌%◌, ◌^◌, ◌<◌, ◌≤◌, Bool, true, false, List, [], ◌∷◌, ◌++◌, length, take, drop, get_or, refl, sym, ap, ◌∙◌, arith, append_assoc, append-nil}
use Rattle.std.proofs.Math.Nat.{div-div-eq-div-mul, div-one, pow-suc}
use Rattle.std.proofs.Math.Seq.{take-append-add, drop-append_seam}
use Rattle.std.proofs.lemmas.List.{length-take-le, take-append-le, take_more}
use Rattle.std.proofs.lemmas.Grind.{flat_map-append}
use Rattle.std.proofs.lemmas.Nat.{pow-add}
use Rattle.std.specs.Int.{byte_at, bytes_low_first}
use Rattle.std.specs.List.{flat_map, repeat}
use Rattle.std.specs.Fmt.{decimal}
use Rattle.byteorder.proofs.Bytes.{take-bytes_low_first}
use borrow.Rule.Slice.PartMut.{mid_of, post_of, put_mid}
use Rattle.byteorder.proofs.Slices.{write_step}
use Rattle.comtrade_values.specs.Written.{filled, padded}
use Rattle.comtrade_format.specs.Lines.{bit_text}
use Rattle.comtrade_values.proofs.Digits.{padded_one, padded_two, padded_pair}

-- what stood before the place, and then the first n of the bytes that were written there
pub stored : (dst bs rest post : List ℕ) (at n : ℕ) → at ≤ length dst → n ≤ length bs
    → take (at + n) (take at dst ++ ((bs ++ rest) ++ post)) ≡ take at dst ++ take n bs
stored dst bs rest post at n room few =
    let front : List ℕ = take at dst in
    let lf : length front ≡ at = length-take-le at dst room in
    let inner : take n ((bs ++ rest) ++ post) ≡ take n bs =
    ap (take n) (append_assoc bs rest post) ∙ take-append-le n bs (rest ++ post) few in
    ap (λ (k : ℕ). take (k + n) (front ++ ((bs ++ rest) ++ post))) (sym lf)
    ∙ take-append-add front ((bs ++ rest) ++ post) n
    ∙ ap (λ (r : List ℕ). front ++ r) inner

-- one item more is written at a moving place
pub more_at : {X : Type 0} (f : X → List ℕ) (xs : List X) (i : ℕ) (d : X) (before after : List ℕ) → i < length xs
    → before ≡ flat_map f (take i xs) → after ≡ before ++ f (get_or xs i d) → after ≡ flat_map f (take (i + 1) xs)
more_at f xs i d before after lt so_far e =
    rw (e, so_far, take_more xs i d lt, flat_map-append, append-nil) refl

byte_at-pow : (i x : ℕ) → byte_at i x ≡ x / 256 ^ i % 256
byte_at-pow zero x = ap (λ (y : ℕ). y % 256) (sym (div-one x))
byte_at-pow (suc i) x = refl

byte_above : (i z x : ℕ) → byte_at i (x / 256 ^ z) ≡ byte_at (z + i) x
byte_above i z x =
    let parts : x / 256 ^ z / 256 ^ i ≡ x / (256 ^ z * 256 ^ i) = div-div-eq-div-mul x (256 ^ z) (256 ^ i) in
    byte_at-pow i (x / 256 ^ z) ∙ ap (λ (y : ℕ). y % 256) (parts ∙ ap (λ (p : ℕ). x / p) (sym (pow-add 256 z i))) ∙ sym (byte_at-pow (z + i) x)

-- a number without its lowest z bytes has the bytes above them
bytes_above : (k i z x : ℕ) → bytes_low_first i k (x / 256 ^ z) ≡ bytes_low_first (z + i) k x
bytes_above zero i z x = refl
bytes_above (suc k) i z x =
    let e : z + suc i ≡ suc (z + i) = omega arith in
    let rest : bytes_low_first (suc i) k (x / 256 ^ z) ≡ bytes_low_first (suc (z + i)) k x =
    bytes_above k (suc i) z x ∙ ap (λ (j : ℕ). bytes_low_first j k x) e in
    rw (byte_above i z x, rest) refl

drop_bytes : (z i k x : ℕ) → drop z (bytes_low_first i (z + k) x) ≡ bytes_low_first (z + i) k x
drop_bytes zero i k x =
    let a : 0 + k ≡ k = omega arith in
    let b : 0 + i ≡ i = omega arith in
    rw (a, b) refl
drop_bytes (suc z) i k x =
    let a : suc z + k ≡ suc (z + k) = omega arith in
    let b : suc z + i ≡ z + suc i = omega arith in
    rw (a, b) (drop_bytes z (suc i) k x)

bits_of_bytes : (z : ℕ) → 2 ^ (8 * z) ≡ 256 ^ z
bits_of_bytes zero = refl
bits_of_bytes (suc z) =
    let a : 8 * suc z ≡ 8 + 8 * z = omega arith in
    let ih = bits_of_bytes z in
    rw (a, pow-add 2 8 (8 * z), ih, pow-suc 256 z) (omega arith)

pub length_zeros : (k : ℕ) → length (repeat {A = ℕ} k (48 ∷ [])) ≡ k
length_zeros zero = refl
length_zeros (suc k) = ap suc (length_zeros k)

-- the digits of n, where x has so many digits of n with zeros in front, of which z are moved out
pub digits_left : (digits x n z : ℕ) → digits ≤ 8 → z + length (decimal n) ≡ digits → bytes_low_first 0 digits x ≡ padded digits n
    → take (digits - z) (bytes_low_first 0 8 (x / 2 ^ (8 * z))) ≡ decimal n
unfolding padded filled
digits_left digits x n z most e is =
    let k : ℕ = length (decimal n) in
    let count : digits - z ≡ k = omega arith in
    let front : digits - k ≡ z = omega arith in
    let whole : z + k ≡ digits = e in
    let start : z + 0 ≡ z = omega arith in
    let zs : List ℕ = repeat (digits - k) (48 ∷ []) in
    let lz : length zs ≡ z = length_zeros (digits - k) ∙ front in
    ap (λ (m : ℕ). take m (bytes_low_first 0 8 (x / 2 ^ (8 * z)))) count
    ∙ take-bytes_low_first 0 8 k (x / 2 ^ (8 * z)) (omega arith)
    ∙ ap (λ (p : ℕ). bytes_low_first 0 k (x / p)) (bits_of_bytes z)
    ∙ bytes_above k 0 z x
    ∙ sym (drop_bytes z 0 k x)
    ∙ ap (λ (m : ℕ). drop z (bytes_low_first 0 m x)) whole
    ∙ ap (drop z) is
    ∙ ap (λ (m : ℕ). drop m (zs ++ decimal n)) (sym lz)
    ∙ drop-append_seam zs (decimal n)

-- these digits, where x was written at a place in a slot
pub digits_stored : (digits : ℕ) (slot buf : List ℕ) (at x n z : ℕ) → digits ≤ 8 → at + 8 ≤ length slot → z + length (decimal n) ≡ digits → bytes_low_first 0 digits x ≡ padded digits n
    → buf ≡ bytes_low_first 0 8 (x / 2 ^ (8 * z)) ++ drop 8 (mid_of at (length slot - at) slot)
    → take (at + (digits - z)) (put_mid at (length slot - at) slot buf) ≡ take at slot ++ decimal n
digits_stored digits slot buf at x n z most room e is eb =
    let bs = bytes_low_first 0 8 (x / 2 ^ (8 * z)) in
    let left = length slot - at in
    rw eb
    (stored slot bs (drop 8 (mid_of at left slot)) (post_of at left slot) at (digits - z) (omega arith) (omega arith)
    ∙ ap (λ (r : List ℕ). take at slot ++ r) (digits_left digits x n z most e is))

-- five bytes of which each is below 256
five_bytes : (a b c d e x : ℕ) → a < 256 → b < 256 → c < 256 → d < 256 → e < 256 → x ≡ a + 256 * (b + 256 * c) + 16_777_216 * (d + 256 * e)
    → bytes_low_first 0 5 x ≡ a ∷ b ∷ c ∷ d ∷ e ∷ []
five_bytes a b c d e x la lb lc ld le is =
    let e0 : x % 256 ≡ a = omega arith in
    let e1 : x / 256 % 256 ≡ b = omega arith in
    let e2 : x / 65_536 % 256 ≡ c = omega arith in
    let e3 : x / 16_777_216 % 256 ≡ d = omega arith in
    let e4 : x / 4_294_967_296 % 256 ≡ e = omega arith in
    rw (e0, e1, e2, e3, e4) refl

-- the five digits of n, two and two of them as one number
pub five_digits : (n x high low : ℕ) → n < 100_000 → high ≡ (48 + n / 100 % 100 / 10) + 256 * (48 + n / 100 % 100 % 10) → low ≡ (48 + n % 100 / 10) + 256 * (48 + n % 100 % 10)
    → x ≡ (48 + n / 10_000) + 256 * high + 16_777_216 * low → bytes_low_first 0 5 x ≡ padded 5 n
five_digits n x high low few h l is =
    let p = padded_pair 2 n (omega arith) in
    let q = padded_pair 0 (n / 100) (omega arith) in
    let top = padded_one (n / 100 / 100) (omega arith) in
    let same : n / 100 / 100 ≡ n / 10_000 = omega arith in
    let two = padded_two (n / 100 % 100) (omega arith) in
    let last = padded_two (n % 100) (omega arith) in
    let bytes = five_bytes (48 + n / 10_000) (48 + n / 100 % 100 / 10) (48 + n / 100 % 100 % 10) (48 + n % 100 / 10) (48 + n % 100 % 10) x (omega arith) (omega arith) (omega arith) (omega arith) (omega arith) (rw (is, h, l) refl) in
    bytes ∙ sym (rw (p, q, top, same, two, last) refl)

bit_field : (b : Bool) → length (44 ∷ bit_text b) ≡ 2
bit_field true = refl
bit_field false = refl

-- one bit's field more is written
pub bit_step : (bits : List Bool) (dst bs rest post : List ℕ) (i : ℕ) → 2 * i ≤ length dst → i < length bits → bs ≡ 44 ∷ bit_text (get_or bits i false)
    → take (2 * i) dst ≡ flat_map (λ b. 44 ∷ bit_text b) (take i bits)
    → take (2 * i + 2) (take (2 * i) dst ++ ((bs ++ rest) ++ post)) ≡ flat_map (λ b. 44 ∷ bit_text b) (take (i + 1) bits)
bit_step bits dst bs rest post i room lt e so_far =
    write_step (λ b. 44 ∷ bit_text b) 2 bits false dst bs rest post i room lt (bit_field (get_or bits i false)) e so_far
