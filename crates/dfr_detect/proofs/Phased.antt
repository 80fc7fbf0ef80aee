-- What two waves keep, after a sample more.
use Rattle.std.proofs.Common.{◌≡◌, ◌∙◌, sym, ap, subst, refl, ℕ, ◌+◌, ◌-◌, ◌*◌, ◌^◌, ◌<◌, ◌≤◌, List, [], ◌∷◌, length, take, get_or, arith, rules, ℤ, pos, ◌+ℤ◌, ◌-ℤ◌, Option, Some, None}
use Rattle.std.specs.Prelude.{slice_get, unsigned_abs, IfSome}
use Rattle.std.specs.List.{All}
use Rattle.std.proofs.Math.Nat.{mul-le-mul_right}
use Rattle.std.proofs.lemmas.List.{length-take}
use Rattle.std.proofs.lemmas.List.Elements.{All-cons, All-take}
use Rattle.std.proofs.lemmas.Option.{slice_get_within, get_or_from_slice_get}
use Rattle.circular_buffer.specs.Buffer.{Buffer, buffer}
use Rattle.dfr_detect.specs.Sums.{AreSmall}
use Rattle.dfr_detect.specs.Turns.{weights_of, pair_of, IsTable}
use Rattle.dfr_detect.specs.Phasors.{after, correlation, weighed, real_of, imaginary_of, real, imaginary, nothing, gone, less, moved, other_moved, either, AreWeights, IsPhasor, IsOther, IsWaves}
use Rattle.dfr_detect.specs.declared.sample.Sample.{Sample}
use Rattle.dfr_detect.specs.declared.turns.Shape.{Shape}
use Rattle.dfr_detect.specs.declared.turns.Weights.{Weights}
use Rattle.dfr_detect.specs.declared.turns.Pair.{Pair}
use Rattle.dfr_detect.specs.declared.waves.Phasor.{Phasor}
use Rattle.dfr_detect.proofs.Coefficients.{weights_small}
use Rattle.dfr_detect.proofs.Weighing.{weighed_nothing, weighed_less, weighed_small}
use Rattle.dfr_detect.proofs.Sliding.{after_low, correlation_slides, correlation_bounded}

few_sum : (long n sum : ℕ) → sum ≤ long * (3 * 2 ^ 53) → long ≤ n → n ≤ 2 ^ 12 → sum ≤ 2 ^ 67
few_sum long n sum h few bounded =
    let wide = mul-le-mul_right (3 * 2 ^ 53) few in
    let all = mul-le-mul_right (3 * 2 ^ 53) bounded in
    omega (arith, h, wide, all)

real_most : (n : ℕ) (s : Shape) (i : ℕ) (x : Sample) → AreSmall x → unsigned_abs (real_of (weights_of n s i) x) ≤ 3 * 2 ^ 53
real_most n s i x small =
    let w = weights_small n s i in
    weighed_small _ _ _ x w.a.cosine w.b.cosine w.c.cosine small

imaginary_most : (n : ℕ) (s : Shape) (i : ℕ) (x : Sample) → AreSmall x → unsigned_abs (imaginary_of (weights_of n s i) x) ≤ 3 * 2 ^ 53
imaginary_most n s i x small =
    let w = weights_small n s i in
    weighed_small _ _ _ x w.a.sine w.b.sine w.c.sine small

pub real_bounded : (n : ℕ) (s : Shape) (k : ℕ) (xs : List Sample) (p : Phasor) → IsPhasor n s k xs p → All AreSmall xs → length xs ≤ n → n ≤ 2 ^ 12 → unsigned_abs p.real ≤ 2 ^ 67
real_bounded n s k xs p is small few bounded =
    let most = correlation_bounded (λ i x. real_of (weights_of n s i) x) n k (3 * 2 ^ 53) xs (real_most n s) small in
    few_sum (length xs) n (unsigned_abs p.real) (subst (λ (v : ℤ). unsigned_abs v ≤ length xs * (3 * 2 ^ 53)) (sym is.real) most) few bounded

pub imaginary_bounded : (n : ℕ) (s : Shape) (k : ℕ) (xs : List Sample) (p : Phasor) → IsPhasor n s k xs p → All AreSmall xs → length xs ≤ n → n ≤ 2 ^ 12 → unsigned_abs p.imaginary ≤ 2 ^ 67
imaginary_bounded n s k xs p is small few bounded =
    let most = correlation_bounded (λ i x. imaginary_of (weights_of n s i) x) n k (3 * 2 ^ 53) xs (imaginary_most n s) small in
    few_sum (length xs) n (unsigned_abs p.imaginary) (subst (λ (v : ℤ). unsigned_abs v ≤ length xs * (3 * 2 ^ 53)) (sym is.imaginary) most) few bounded

-- the phasor of the other wave
pub other_is : (n : ℕ) (first other : Shape) (k : ℕ) (xs : List Sample) (p : Phasor) (q : Option Phasor) → IsPhasor n first k xs p → IsOther n first other k xs q → IsPhasor n other k xs (either p q)
other_is n first other k xs p (Some q) one two = two
other_is n first other k xs p None one two = subst (λ (s : Shape). IsPhasor n s k xs p) two one

pub other_real : (n : ℕ) (first other : Shape) (k : ℕ) (xs : List Sample) (q : Option Phasor) → IsOther n first other k xs q → All AreSmall xs → length xs ≤ n → n ≤ 2 ^ 12 → IfSome q (λ p. unsigned_abs p.real ≤ 2 ^ 67)
other_real n first other k xs (Some p) is small few bounded = real_bounded n other k xs p is small few bounded
other_real n first other k xs None is small few bounded = search rules

pub other_imaginary : (n : ℕ) (first other : Shape) (k : ℕ) (xs : List Sample) (q : Option Phasor) → IsOther n first other k xs q → All AreSmall xs → length xs ≤ n → n ≤ 2 ^ 12
    → IfSome q (λ p. unsigned_abs p.imaginary ≤ 2 ^ 67)
other_imaginary n first other k xs (Some p) is small few bounded = imaginary_bounded n other k xs p is small few bounded
other_imaginary n first other k xs None is small few bounded = search rules

-- the sample that leaves is no larger
pub gone_small : (n : ℕ) (x : Sample) (xs : List Sample) (left : Option Sample) → AreSmall x → All AreSmall xs → slice_get (x ∷ xs) n ≡ left → AreSmall (gone left)
gone_small n x xs None small all e = record { a = omega arith; b = omega arith; c = omega arith }
gone_small n x xs (Some y) small all e =
    let every = All-cons AreSmall x xs small all in
    subst AreSmall (get_or_from_slice_get (x ∷ xs) n y y e) (every n y (slice_get_within (x ∷ xs) n y e))

-- a phasor that moved on
phasor_more : (n : ℕ) (s : Shape) (k : ℕ) (x : Sample) (xs : List Sample) (left : Option Sample) (p : Phasor) → k < n → length xs ≤ n → slice_get (x ∷ xs) n ≡ left
    → IsPhasor n s k xs p → IsPhasor n s (after n k) (take n (x ∷ xs)) (moved p (weights_of n s (after n k)) (less x (gone left)))
phasor_more n s k x xs left p low few is at =
    let w = weights_of n s (after n k) in
    record {
      real =
          ap (λ (v : ℤ). v +ℤ real_of w (less x (gone left))) at.real
          ∙ ap (λ (v : ℤ). real n s k xs +ℤ v) (weighed_less w.a.cosine w.b.cosine w.c.cosine x (gone left))
          ∙ sym (correlation_slides (λ i y. real_of (weights_of n s i) y) n k x xs left low few is (λ i. (let v = weights_of n s i in weighed_nothing v.a.cosine v.b.cosine v.c.cosine)));
      imaginary =
          ap (λ (v : ℤ). v +ℤ imaginary_of w (less x (gone left))) at.imaginary
          ∙ ap (λ (v : ℤ). imaginary n s k xs +ℤ v) (weighed_less w.a.sine w.b.sine w.c.sine x (gone left))
          ∙ sym (correlation_slides (λ i y. imaginary_of (weights_of n s i) y) n k x xs left low few is (λ i. (let v = weights_of n s i in weighed_nothing v.a.sine v.b.sine v.c.sine)));
    }

-- the coefficients of the sample that comes
pub found : (n k : ℕ) (first other : Shape) (table : List Pair) (pair : Pair) → IsTable n n first other table → k < n → pair ≡ get_or table k pair → pair ≡ pair_of n first other k
found n k first other table pair is low e = e ∙ is.at k pair low

pub found_small : (n k : ℕ) (first other : Shape) (pair : Pair) → pair ≡ pair_of n first other k → AreWeights pair.first × AreWeights pair.other
found_small n k first other pair e = (
  subst (λ (p : Pair). AreWeights p.first) (sym e) (weights_small n first k),
  subst (λ (p : Pair). AreWeights p.other) (sym e) (weights_small n other k),
)

-- the other phasor, if there is one
other_more : (n : ℕ) (first other : Shape) (k : ℕ) (x : Sample) (xs : List Sample) (left : Option Sample) (q : Option Phasor) → k < n → length xs ≤ n → slice_get (x ∷ xs) n ≡ left
    → IsOther n first other k xs q → IsOther n first other (after n k) (take n (x ∷ xs)) (other_moved q (weights_of n other (after n k)) (less x (gone left)))
other_more n first other k x xs left (Some p) low few is at = phasor_more n other k x xs left p low few is at
other_more n first other k x xs left None low few is at = at

waves_at : (n : ℕ) (first other : Shape) (k : ℕ) (x : Sample) (xs : List Sample) (table : List Pair) (p : Phasor) (q : Option Phasor) (left : Option Sample)
    → IsWaves n first other xs k table p q → AreSmall x → slice_get (x ∷ xs) n ≡ left
    → IsWaves n first other (take n (x ∷ xs)) (after n k) table (moved p (weights_of n first (after n k)) (less x (gone left))) (other_moved q (weights_of n other (after n k)) (less x (gone left)))
waves_at n first other k x xs table p q left h small is = record {
  weights = h.weights;
  some = h.some;
  bounded = h.bounded;
  small = All-take AreSmall n (x ∷ xs) (All-cons AreSmall x xs small h.small);
  few = let short = length-take n (x ∷ xs) in omega (arith, short);
  low = after_low n k h.low;
  one = phasor_more n first k x xs left p h.low h.few is h.one;
  two = other_more n first other k x xs left q h.low h.few is h.two;
}

-- after a sample more
pub waves_more : (n : ℕ) (first other : Shape) (k i : ℕ) (x : Sample) (xs : List Sample) (table : List Pair) (p r : Phasor) (q t : Option Phasor) (left : Option Sample) (pair : Pair) (b : Buffer Sample)
    → IsWaves n first other xs k table p q → AreSmall x → slice_get (x ∷ xs) n ≡ left → i ≡ after n k → pair ≡ pair_of n first other i → b ≡ buffer (take n (x ∷ xs)) n
    → r ≡ moved p pair.first (less x (gone left)) → t ≡ other_moved q pair.other (less x (gone left)) → IsWaves b.capacity first other b.items i table r t
waves_more n first other k i x xs table p r q t left pair b h small is at found took made also =
    let done = waves_at n first other k x xs table p q left h small is in
    let same : pair ≡ pair_of n first other (after n k) = found ∙ ap (λ (j : ℕ). pair_of n first other j) at in
    let one : moved p (weights_of n first (after n k)) (less x (gone left)) ≡ r = sym (made ∙ ap (λ (w : Pair). moved p w.first (less x (gone left))) same) in
    let two : other_moved q (weights_of n other (after n k)) (less x (gone left)) ≡ t = sym (also ∙ ap (λ (w : Pair). other_moved q w.other (less x (gone left))) same) in
    subst (λ (w : Buffer Sample). IsWaves w.capacity first other w.items i table r t) (sym took)
    (subst (λ (j : ℕ). IsWaves n first other (take n (x ∷ xs)) j table r t) (sym at)
    (subst (λ (u : Option Phasor). IsWaves n first other (take n (x ∷ xs)) (after n k) table r u) two
    (subst (λ (u : Phasor). IsWaves n first other (take n (x ∷ xs)) (after n k) table u (other_moved q (weights_of n other (after n k)) (less x (gone left)))) one done)))

-- of no sample
pub waves_start : (n : ℕ) (first other : Shape) (table : List Pair) (q : Option Phasor) (b : Buffer Sample) (k : ℕ) → IsTable n n first other table → 1 ≤ n → n ≤ 2 ^ 12 → b ≡ buffer [] n → k ≡ n - 1
    → ((m i : ℕ) → IsOther m first other i [] q) → IsWaves b.capacity first other b.items k table (record { real = pos 0; imaginary = pos 0 }) q
waves_start n first other table q b k weights some bounded seen at two =
    subst (λ (w : Buffer Sample). IsWaves w.capacity first other w.items k table (record { real = pos 0; imaginary = pos 0 }) q) (sym seen) (record {
      weights = weights;
      some = some;
      bounded = bounded;
      small = λ i d h. absurd (omega (arith, h));
      few = omega arith;
      low = omega (arith, some, at);
      one = record { real = refl; imaginary = refl };
      two = two n k;
    })
