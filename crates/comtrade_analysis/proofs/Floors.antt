-- Quotients and squares that are rounded down.
use Rattle.std.proofs.Common.{◌≡◌, ◌≢◌, ℕ, zero, suc, ◌+◌, ◌-◌, ◌*◌, ◌/◌, ◌^◌, ◌<◌, ◌≤◌, ◌⊎◌, inl, inr, pos, Option, Some, None, SomeIff, IfNone, refl, sym, ap, ◌∙◌, subst, arith}
use Rattle.std.proofs.Math.Nat.{mul-le-mul, mul-le-mul_right, mul-lt-mul_of_pos_right, one-le-pow, pow-suc, pow-le-pow_right, div-mul-le_self, lt-div-mul-add, lt_of_not-le}
use Rattle.std.proofs.lemmas.Nat.{mul-pow}
use Rattle.std.proofs.lemmas.Int.{ints}
use Rattle.comtrade_values.specs.Spelling.{Number, IsNumber}
use Rattle.comtrade_analysis.specs.Wide.{number}
use Rattle.comtrade_analysis.specs.Roots.{parts, IsFloor, IsRoot, HasDigits}
use Rattle.comtrade_analysis.specs.declared.mean_square.MeanSquare.{MeanSquare}

tens : (n : ℕ) → 1 ≤ 100 ^ n
tens n = one-le-pow n 100 (omega arith)

pub some_parts : (m : MeanSquare) → 1 ≤ parts m
some_parts m = let t : 1 ≤ 100 ^ m.places = tens m.places in let s : 1 ≤ m.count = omega arith in mul-le-mul s t

more_hundreds : (n : ℕ) → 100 ^ (n + 1) ≡ 100 ^ n * 100
more_hundreds n = ap (λ k. 100 ^ k) (omega arith) ∙ pow-suc 100 n

-- of a numerator that is the sum in some places
pub floor_of : (m : MeanSquare) (top places : ℕ) → top * 100 ^ m.places ≡ number m.sum * 100 ^ places → IsFloor m places (top / m.count)
floor_of m top places same =
    let t = 100 ^ m.places in
    let q = top / m.count in
    let some : 0 < m.count = omega arith in
    let many : 0 < t = tens m.places in
    let low : q * m.count ≤ top = div-mul-le_self top m.count in
    let high : top < (q + 1) * m.count = let h : top < q * m.count + m.count = lt-div-mul-add some in omega arith in
    record {
      below = let h : q * m.count * t ≤ top * t = mul-le-mul_right t low in omega arith;
      next = let h : top * t < (q + 1) * m.count * t = mul-lt-mul_of_pos_right high many in omega arith;
    }

-- with one place fewer
pub floor_shortened : (m : MeanSquare) (places more square : ℕ) → places + 1 ≡ more → IsFloor m more square → IsFloor m places (square / 100)
floor_shortened m places more square same h =
    let d = parts m in
    let s = number m.sum in
    let grown : s * 100 ^ more ≡ s * 100 ^ places * 100 =
    let e : 100 ^ more ≡ 100 ^ places * 100 = ap (λ k. 100 ^ k) (sym same) ∙ more_hundreds places in ap (λ n. s * n) e ∙ omega arith in
    record {
      below =
          let h1 : square * d ≤ s * 100 ^ more = h.below in
          let h2 : square / 100 * 100 * d ≤ square * d = mul-le-mul_right d (omega arith) in omega arith;
      next =
          let h1 : s * 100 ^ more < (square + 1) * d = h.next in
          let h2 : (square + 1) * d ≤ (square / 100 + 1) * 100 * d = mul-le-mul_right d (omega arith) in omega arith;
    }

-- the sum is zero
pub zero_floor : (m : MeanSquare) → m.sum.high ≡ 0 → m.sum.low ≡ 0 → IsFloor m 0 0
zero_floor m high low = let some : 1 ≤ parts m = some_parts m in record { below = omega arith; next = omega arith }

-- a square that stays at 2 ^ 128 without places
pub too_large : (m : MeanSquare) (places least square : ℕ) → IsFloor m places square → (places ≢ 0 → square / 100 < least) → 100 * least ≤ 2 ^ 128 → 2 ^ 128 ≤ square
    → 2 ^ 128 * parts m ≤ number m.sum
too_large m zero least square h low room large =
    let h1 : square * parts m ≤ number m.sum * 100 ^ 0 = h.below in
    let h2 : 2 ^ 128 * parts m ≤ square * parts m = mul-le-mul_right (parts m) large in omega arith
too_large m (suc places) least square h low room large =
    let small : square / 100 < least = low (λ (none : suc places ≡ 0). let no : ⊥ = omega arith in no) in
    let no : ⊥ = omega arith in absurd no

-- the sum in units of one more place
pub longer_same : (m : MeanSquare) (old new places more : ℕ) → new ≡ old * 100 → more ≡ places + 1 → old * 100 ^ m.places ≡ number m.sum * 100 ^ places
    → new * 100 ^ m.places ≡ number m.sum * 100 ^ more
longer_same m old new places more grown one same =
    let e : 100 ^ more ≡ 100 ^ places * 100 = ap (λ k. 100 ^ k) one ∙ more_hundreds places in
    ap (λ n. n * 100 ^ m.places) grown ∙ omega arith ∙ ap (λ n. n * 100) same ∙ omega arith ∙ ap (λ n. number m.sum * n) (sym e)

-- a quotient below a number
pub below_quotient : (top count least : ℕ) → 0 < count → top / count < least → top < least * count
below_quotient top count least some low =
    let h1 : top < top / count * count + count = lt-div-mul-add some in
    let more : top / count + 1 ≤ least = omega arith in
    let h2 : (top / count + 1) * count ≤ least * count = mul-le-mul_right count more in omega arith

-- a root of too many places
pub too_small : (m : MeanSquare) (least top places : ℕ) → (80 ≤ places) ⊎ (least ≤ top / m.count) → places ≤ 80
    → top * 100 ^ m.places ≡ number m.sum * 100 ^ places → top / m.count < least → number m.sum * 100 ^ 80 < least * parts m
too_small m least top places (inl all) few same low =
    let is : places ≡ 80 = omega arith in
    let h : top < least * m.count = below_quotient top m.count least (omega arith) low in
    let h1 : top * 100 ^ m.places < least * m.count * 100 ^ m.places = mul-lt-mul_of_pos_right h (tens m.places) in
    let h2 : number m.sum * 100 ^ places < least * parts m = omega arith in
    subst (λ (n : ℕ). number m.sum * 100 ^ n < least * parts m) is h2
too_small m least top places (inr enough) few same low = absurd (omega arith)

-- 100 to the power of the digits
pub hundred_more : (digits : ℕ) → 0 < digits → 100 * 100 ^ (digits - 1) ≡ 100 ^ digits
hundred_more digits some = let e : digits - 1 + 1 ≡ digits = omega arith in
    omega arith ∙ sym (more_hundreds (digits - 1)) ∙ ap (λ k. 100 ^ k) e

-- nine digits leave room for any count
pub digits_fit : (digits least count : ℕ) → 0 < digits → digits ≤ 9 → least ≡ 100 ^ (digits - 1) → count < 2 ^ 64 → 100 * least * count < 2 ^ 128
digits_fit digits least count some few is small =
    let grown : 100 * least ≡ 100 ^ digits = ap (λ n. 100 * n) is ∙ hundred_more digits some in
    let h1 : 100 ^ digits ≤ 100 ^ 9 = pow-le-pow_right {n = 100} (omega arith) few in
    let h2 : 100 * least ≤ 100 ^ 9 = subst (λ (n : ℕ). n ≤ 100 ^ 9) (sym grown) h1 in
    let h3 : count ≤ 2 ^ 64 = omega arith in
    let h4 : 100 * least * count ≤ 100 ^ 9 * 2 ^ 64 = mul-le-mul h2 h3 in omega arith

tens_squared : (n : ℕ) → 100 ^ n ≡ 10 ^ n * 10 ^ n
tens_squared n = mul-pow 10 10 n

-- a root is at least what a square is at least the square of
least_root : (ten root square : ℕ) → ten * ten ≤ square → square < (root + 1) * (root + 1) → ten ≤ root
least_root ten root square enough next =
    let lt : ten < root + 1 =
    lt_of_not-le (λ (large : root + 1 ≤ ten). let h : (root + 1) * (root + 1) ≤ ten * ten = mul-le-mul large large in omega arith) in omega arith

-- and below what a square is below the square of
most_root : (ten root square : ℕ) → square < ten * ten → root * root ≤ square → root < ten
most_root ten root square small below =
    lt_of_not-le (λ (large : ten ≤ root). let h : ten * ten ≤ root * root = mul-le-mul large large in omega arith)

module _ (m : MeanSquare) (digits places square root : ℕ) where
  root_is : IsFloor m places square → root * root ≤ square → square < (root + 1) * (root + 1) → IsRoot m (record { units = pos root; places = places })
  root_is h below next = record {
    sign = refl;
    below = let h1 : square * parts m ≤ number m.sum * 100 ^ places = h.below in
        let h2 : root * root * parts m ≤ square * parts m = mul-le-mul_right (parts m) below in omega arith;
    next = let h1 : number m.sum * 100 ^ places < (square + 1) * parts m = h.next in
        let more : square + 1 ≤ (root + 1) * (root + 1) = omega arith in
        let h2 : (square + 1) * parts m ≤ (root + 1) * (root + 1) * parts m = mul-le-mul_right (parts m) more in omega arith;
  }

  has_digits : 0 < digits → (number m.sum ≢ 0 → 100 ^ (digits - 1) ≤ square) → (places ≢ 0 → square < 100 * 100 ^ (digits - 1))
      → root * root ≤ square → square < (root + 1) * (root + 1) → HasDigits m digits (record { units = pos root; places = places })
  has_digits some enough fewest below next = record {
    enough = λ no. least_root (10 ^ (digits - 1)) root square
        (subst (λ (n : ℕ). n ≤ square) (tens_squared (digits - 1)) (enough no)) next;
    fewest = λ no. most_root (10 ^ digits) root square
        (subst (λ (n : ℕ). square < n) (hundred_more digits some ∙ tens_squared digits) (fewest no)) below;
  }

  pub root_of : (least : ℕ) → 0 < digits → least ≡ 100 ^ (digits - 1) → IsFloor m places square → (number m.sum ≢ 0 → least ≤ square) → (places ≢ 0 → square < 100 * least)
      → root * root ≤ square → square < (root + 1) * (root + 1)
      → IsRoot m (record { units = pos root; places = places }) × HasDigits m digits (record { units = pos root; places = places })
  root_of least some is h enough fewest below next = (
    root_is h below next,
    has_digits some (λ no. subst (λ (n : ℕ). n ≤ square) is (enough no)) (λ no. subst (λ (n : ℕ). square < 100 * n) is (fewest no)) below next,
  )

-- a root of 64 bits
pub small_root : (root square : ℕ) → root * root ≤ square → square < 2 ^ 128 → root < 2 ^ 64
small_root root square below small = most_root (2 ^ 64) root square (omega arith) below

-- a decimal holds it
pub small_number : (units places : ℕ) → units < 2 ^ 64 → places ≤ 80 → IsNumber (record { units = pos units; places = places })
small_number units places small few = record { above = omega (arith, ints); below = omega (arith, ints); places = few }

-- what holds of a number that can be held, of the call that makes it
pub made : (P : Option Number → Type 0) (d : Number) (o : Option Number) → SomeIff o (IsNumber d) d → IsNumber d → P (Some d) → P o
made P d None h is holds = absurd (h is)
made P d (Some n) h is holds = subst (λ (x : Number). P (Some x)) (sym h.1) holds

-- what an early return owes, where it is known
pub if_none : {X : Type 0} (P : Type 0) (o : Option X) → P → IfNone o P
if_none P None h = h
if_none P (Some x) h = tt
