-- The numbers of a binary row: what is written is read, and what is read is written.
use Rattle.std.proofs.Common.{◌≡◌, ℕ, zero, suc, ◌+◌, ◌*◌, ◌/◌, ◌^◌, ◌<◌, ◌≤◌, Bool, true, false, cond, eqb, get_or, take, List, [], ◌∷◌, length, map, Option, Some, None, refl, sym, ap, ◌∙◌, arith, inl, inr}
use Rattle.std.specs.Prelude.{ℤ, negsuc, FitsSigned}
use Rattle.std.specs.Int.{w16, cast_signed, cast_unsigned, bit_at}
use Rattle.std.specs.Ordering.{int_eq}
use Rattle.std.specs.List.{range_with_len}
use Rattle.jiff_core.proofs.SignedLemmas.{signed_arith}
use Rattle.std.proofs.lemmas.Int.{ints, of_z-to_z, to_z-of_z, fits_signed_from_abs}
use Rattle.std.proofs.Math.Facts.{sfits_to_z, Fits-of_lt, Fits-of_z, Fits-lt-pow}
use Rattle.std.proofs.Math.Nat.{pow-suc}
use Rattle.std.proofs.lemmas.Nat.{le_bytes_2, le_bytes_4}
use Rattle.std.proofs.lemmas.Nat.Bits.{bit_at-zero, bit_at_lowest, bit_at-suc, bit_at-lt, same_from_bits_below}
use Rattle.std.proofs.lemmas.List.FromFn.{length-map-range_with_len, get_or-map-range_with_len}
use Rattle.std.proofs.lemmas.Bool.Decides.{Decides-int_eq, nat_tests}
use Rattle.std.proofs.lemmas.Bool.{eqb-true, eqb-false, cases_lt, cond_both, false_from_ne_true}
use Rattle.std.proofs.lemmas.List.{get_or-take, get_or_past, length-take, length-take-le}
use Rattle.byteorder.specs.Endian.{little_number, little_bytes}
use Rattle.byteorder.specs.Numbers.{little_from-lt}
use Rattle.dfr_channels.specs.declared.scan.Reading.{Reading}
use Rattle.dfr_channels.specs.declared.scan.Reading.TheVariants.{Value, Missing}
use Rattle.comtrade_format.specs.Binary.{reading_number, stamp_number, bits_number}
use Rattle.comtrade_format.specs.Packed.{reading}
use Rattle.comtrade_read.specs.Inner.BinaryRows.{stamp_at}
use Rattle.comtrade_read.specs.Reads.{IsPresent, IsStamp}

abbrev pub AllBytes : List ℕ → Type 0
AllBytes xs = (i : ℕ) → get_or xs i 0 < 256

-- ---- bytes of a number

take_fits : (n : ℕ) (xs : List ℕ) → AllBytes xs → AllBytes (take n xs)
take_fits n xs h i = elim (cases_lt i n) [
  | inl lt ↦ rw (get_or-take n xs i 0 lt) (h i)
  | inr le ↦ rw (get_or_past (take n xs) i 0 (omega (arith, length-take n xs))) (omega arith)
]

pub two_bytes : (xs : List ℕ) → 2 ≤ length xs → AllBytes xs → little_bytes 2 (little_number 2 xs) ≡ take 2 xs
two_bytes xs le h =
    let at = λ (i : ℕ) (lt : i < 2). get_or-take 2 xs i 0 lt in
    le_bytes_2 (take 2 xs) (little_number 2 xs) (length-take-le 2 xs le) (take_fits 2 xs h) (omega (arith, at 0 (omega arith), at 1 (omega arith)))

pub four_bytes : (xs : List ℕ) → 4 ≤ length xs → AllBytes xs → little_bytes 4 (little_number 4 xs) ≡ take 4 xs
four_bytes xs le h =
    let at = λ (i : ℕ) (lt : i < 4). get_or-take 4 xs i 0 lt in
    le_bytes_4 (take 4 xs) (little_number 4 xs) (length-take-le 4 xs le) (take_fits 4 xs h) (omega (arith, at 0 (omega arith), at 1 (omega arith), at 2 (omega arith), at 3 (omega arith)))

pub two_fit : (xs : List ℕ) → AllBytes xs → little_number 2 xs < 65536
two_fit xs h = little_from-lt 0 2 xs h

pub four_fit : (xs : List ℕ) → AllBytes xs → little_number 4 xs < 4294967296
four_fit xs h = little_from-lt 0 4 xs h

-- ---- values

pub number_again : (n : ℕ) → n < 65536 → reading_number (reading (cast_signed w16 n)) ≡ n
number_again n lt =
    let z = cast_signed w16 n in
    let back : cast_unsigned w16 z ≡ n = of_z-to_z w16 n lt in
    cond_both (int_eq z (negsuc 32767)) Missing (Value z) (λ v. reading_number v ≡ n) (λ t. ap (cast_unsigned w16) (sym ((Decides-int_eq z (negsuc 32767)).0 t)) ∙ back) (λ t. back)

within : (z : ℤ) → FitsSigned w16 z → int_eq z (negsuc 32767) ≡ false → IsPresent (Value z)
within z fits other =
    let apart : z ≡ negsuc 32767 → ⊥ = λ e. let t = (Decides-int_eq z (negsuc 32767)).1 e in cc in
    (omega (arith, signed_arith, fits, apart), omega (arith, signed_arith, fits))

pub present_number : (n : ℕ) → n < 65536 → IsPresent (reading (cast_signed w16 n))
present_number n lt =
    let z = cast_signed w16 n in
    cond_both (int_eq z (negsuc 32767)) Missing (Value z) IsPresent (λ t. tt) (λ t. within z (sfits_to_z {w = w16} {n = n} (Fits-of_lt {w = w16} {n = n} lt)) t)

value_fits : (x : ℤ) → IsPresent (Value x) → FitsSigned w16 x
value_fits x h = fits_signed_from_abs w16 x (omega (arith, ints, h.0, h.1))

pub reading_again : (v : Reading) → IsPresent v → reading (cast_signed w16 (reading_number v)) ≡ v
reading_again Missing h = refl
reading_again (Value x) h =
    let other = false_from_ne_true (int_eq x (negsuc 32767)) (λ t. let same : x ≡ negsuc 32767 = (Decides-int_eq x (negsuc 32767)).0 t in omega (arith, ints, h.0, h.1)) in
    rw (to_z-of_z w16 x (value_fits x h), other) refl

pub small_number : (v : Reading) → IsPresent v → reading_number v < 65536
small_number Missing h = omega arith
small_number (Value x) h = Fits-lt-pow {w = w16} {n = cast_unsigned w16 x} (Fits-of_z {w = w16} {z = x} (value_fits x h))

-- ---- stamps

pub stamp_again : (s : Option ℕ) → IsStamp s → cond (eqb (stamp_number s) 4294967295) None (Some (stamp_number s)) ≡ s
stamp_again None h = refl
stamp_again (Some t) h = let e : eqb t 4294967295 ≡ false = grind (arith, nat_tests) in rw e refl

pub small_stamp : (s : Option ℕ) → IsStamp s → stamp_number s < 4294967296
small_stamp None h = omega arith
small_stamp (Some t) h = omega arith

pub stamp_back : (xs : List ℕ) → stamp_number (stamp_at xs) ≡ little_number 4 xs
stamp_back xs =
    let n = little_number 4 xs in
    cond_both (eqb n 4294967295) None (Some n) (λ s. stamp_number s ≡ n) (λ t. sym (eqb-true n 4294967295 t)) (λ t. refl)

pub stamp_is : (xs : List ℕ) → little_number 4 xs < 4294967296 → IsStamp (stamp_at xs)
stamp_is xs lt =
    let n = little_number 4 xs in
    cond_both (eqb n 4294967295) None (Some n) IsStamp (λ t. tt) (λ t. let other = eqb-false n 4294967295 t in omega arith)

-- ---- bits

pub bits_fit : (bs : List Bool) → bits_number bs < 2 ^ length bs
unfolding bits_number
bits_fit [] = omega arith
bits_fit (true ∷ bs) = let h = bits_fit bs in omega (arith, pow-suc 2 (length bs))
bits_fit (false ∷ bs) = let h = bits_fit bs in omega (arith, pow-suc 2 (length bs))

pub bit_is : (bs : List Bool) (i : ℕ) → eqb (bit_at (bits_number bs) i) 1 ≡ get_or bs i false
unfolding bits_number
bit_is [] i = rw (bit_at-zero i) refl
bit_is (true ∷ bs) zero = let e : bit_at (1 + 2 * bits_number bs) 0 ≡ 1 = bit_at_lowest (1 + 2 * bits_number bs) ∙ omega arith in rw e refl
bit_is (false ∷ bs) zero = let e : bit_at (2 * bits_number bs) 0 ≡ 0 = bit_at_lowest (2 * bits_number bs) ∙ omega arith in rw e refl
bit_is (true ∷ bs) (suc i) = let h : (1 + 2 * bits_number bs) / 2 ≡ bits_number bs = omega arith in rw (bit_at-suc (1 + 2 * bits_number bs) i, h) (bit_is bs i)
bit_is (false ∷ bs) (suc i) = let h : 2 * bits_number bs / 2 ≡ bits_number bs = omega arith in rw (bit_at-suc (2 * bits_number bs) i, h) (bit_is bs i)

-- the bits of a number make it
pub bits_again : (g : ℕ → Bool) (c n i : ℕ) → ((j : ℕ) → j < c → g (i + j) ≡ eqb (bit_at n j) 1) → n < 2 ^ c → bits_number (map g (range_with_len i c)) ≡ n
bits_again g c n i h lt =
    let bs = map g (range_with_len i c) in
    let long : length bs ≡ c = length-map-range_with_len g i c in
    let few : bits_number bs < 2 ^ c = rw long at (bits_fit bs) in
    same_from_bits_below c (bits_number bs) n few lt (λ j jl. same_bit (bit_at (bits_number bs) j) (bit_at n j) (bit_at-lt (bits_number bs) j) (bit_at-lt n j)
    (bit_is bs j ∙ get_or-map-range_with_len g i c j (i + j) false jl refl ∙ h j jl))
  where
    same_bit : (a b : ℕ) → a < 2 → b < 2 → eqb a 1 ≡ eqb b 1 → a ≡ b
    same_bit a b p q e = grind (arith, nat_tests)
