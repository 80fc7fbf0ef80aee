-- A decimal that is computed from capped numbers is the decimal.
use Rattle.std.proofs.Common.{◌≡◌, ℕ, ◌+◌, ◌-◌, ◌*◌, ◌^◌, ◌<◌, ◌≤◌, Bool, true, false, cond, min, List, ◌++◌, length, Option, Some, None, arith, refl, sym, ap, ◌∙◌, inl, inr}
use Rattle.std.proofs.lemmas.Bool.Decides.{nat_tests}
use Rattle.std.specs.Prelude.{option_map}
use Rattle.std.proofs.lemmas.Bool.{cases_lt, le-ltb}
use Rattle.std.proofs.Math.Nat.{pow-le-pow_right, one-le-pow, mul-le-mul_left, mul-le-mul_right}
use Rattle.std.specs.Str.Parse.{digits_value}
use Rattle.comtrade_values.specs.Spelling.{Number, number, shifted, capped, capped_size, is_numeral, decimal_of}

abbrev limit : ℕ
limit = 10 ^ 36

abbrev none : Option Number
none = None

pub many_zeros : (d z : ℕ) → 0 < d → 36 ≤ z → 10 ^ 36 ≤ d * 10 ^ z
many_zeros d z some h =
    let p : 10 ^ 36 ≤ 10 ^ z = pow-le-pow_right {n = 10} (omega arith) {i = 36} {j = z} h in
    let q : 1 * 10 ^ z ≤ d * 10 ^ z = mul-le-mul_right (10 ^ z) some in
    omega arith

pub few_zeros : (z : ℕ) → z < 36 → 10 ^ z < 2 ^ 128
few_zeros z h =
    let p : 10 ^ z ≤ 10 ^ 36 = pow-le-pow_right {n = 10} (omega arith) {i = z} {j = 36} (omega arith) in
    omega arith

no_less : (d z : ℕ) → d ≤ d * 10 ^ z
no_less d z =
    let p : 1 ≤ 10 ^ z = one-le-pow z 10 (omega arith) in
    let q : d * 1 ≤ d * 10 ^ z = mul-le-mul_left d p in
    omega arith

too_large : (minus : Bool) (u p : ℕ) → 10 ^ 36 ≤ u → number minus (u, p) ≡ none
too_large minus u p h = rw (le-ltb u (10 ^ 36) h) refl

too_fine : (minus : Bool) (u p : ℕ) → 80 < p → number minus (u, p) ≡ none
too_fine minus u p h = grind (arith, nat_tests)

no_digits : (z : ℕ) → 0 * 10 ^ z ≡ 0
no_digits z = omega arith

pub same_number : (minus down : Bool) (d p e : ℕ) → p < 2 ^ 64 → number minus (shifted d p (down, e)) ≡ number minus (shifted (min d (10 ^ 36)) p (down, min e (10 ^ 36)))
same_number minus true d p e short =
    elim (cases_lt d (10 ^ 36)) [
      | inl lt ↦ elim (cases_lt e (10 ^ 36)) [
        | inl le ↦ ap (λ (u : ℕ). number minus (u, p + e)) (omega arith) ∙ ap (λ (x : ℕ). number minus (min d (10 ^ 36), p + x)) (omega arith)
        | inr ge ↦ too_fine minus d (p + e) (omega arith) ∙ sym (too_fine minus (min d (10 ^ 36)) (p + min e (10 ^ 36)) (omega arith))
      ]
      | inr ge ↦ too_large minus d (p + e) ge ∙ sym (too_large minus (min d (10 ^ 36)) (p + min e (10 ^ 36)) (omega arith))
    ]
same_number minus false d p e short =
    elim (cases_lt d (10 ^ 36)) [
      | inl lt ↦ elim (cases_lt e (10 ^ 36)) [
        | inl le ↦
            let de : d ≡ min d (10 ^ 36) = omega arith in
            let ee : e ≡ min e (10 ^ 36) = omega arith in
            ap (λ (u : ℕ). number minus (shifted u p (false, e))) de ∙ ap (λ (x : ℕ). number minus (shifted (min d (10 ^ 36)) p (false, x))) ee
        | inr ge ↦ elim (cases_lt 0 d) [
          | inl some ↦
              let a = many_zeros d (e - p) some (omega arith) in
              let b = many_zeros (min d (10 ^ 36)) (min e (10 ^ 36) - p) (omega arith) (omega arith) in
              too_large minus (d * 10 ^ (e - p)) (p - e) a ∙ sym (too_large minus (min d (10 ^ 36) * 10 ^ (min e (10 ^ 36) - p)) (p - min e (10 ^ 36)) b)
          | inr nothing ↦
              let de : d ≡ 0 = omega arith in
              let m : min d (10 ^ 36) ≡ 0 = omega arith in
              let pe : p - e ≡ p - min e (10 ^ 36) = omega arith in
              rw (m, de, no_digits (e - p), no_digits (min e (10 ^ 36) - p), pe) refl
        ]
      ]
      | inr ge ↦
          let a = no_less d (e - p) in
          let b = no_less (min d (10 ^ 36)) (min e (10 ^ 36) - p) in
          too_large minus (d * 10 ^ (e - p)) (p - e) (omega arith) ∙ sym (too_large minus (min d (10 ^ 36) * 10 ^ (min e (10 ^ 36) - p)) (p - min e (10 ^ 36)) (omega arith))
    ]

read_test : (minus : Bool) (b : Bool) (v p d e : ℕ) (down : Bool) (x : Bool × ℕ) → p < 2 ^ 64 → cond b (Some (min v (10 ^ 36))) None ≡ Some d → capped (down, e) ≡ x
    → number minus (shifted d p x) ≡ cond b (number minus (shifted v p (down, e))) None
read_test minus true v p d e down x short de xe =
    let dd : min v (10 ^ 36) ≡ d = cc in
    rw (← dd, ← xe) (sym (same_number minus down v p e short))
read_test minus false v p d e down x short de xe = absurd cc

pub read_some : (minus : Bool) (whole fraction : List ℕ) (e : Option (Bool × ℕ)) (d : ℕ) (x : Bool × ℕ) → length fraction < 2 ^ 64 → capped_size (whole ++ fraction) ≡ Some d → option_map capped e ≡ Some x
    → number minus (shifted d (length fraction) x) ≡ decimal_of minus whole fraction e
read_some minus whole fraction None d x short de xe = absurd cc
read_some minus whole fraction (Some (down, e)) d x short de xe =
    let xx : capped (down, e) ≡ x = cc in
    read_test minus (is_numeral (whole ++ fraction)) (digits_value 10 (whole ++ fraction)) (length fraction) d e down x short de xx

abbrev no_size : Option ℕ
no_size = None

none_test : (b : Bool) (v : ℕ) (o : Option Number) → cond b (Some v) None ≡ no_size → cond b o None ≡ none
none_test true v o e = absurd cc
none_test false v o e = refl

pub read_no_digits : (minus : Bool) (whole fraction : List ℕ) (e : Option (Bool × ℕ)) → capped_size (whole ++ fraction) ≡ no_size → none ≡ decimal_of minus whole fraction e
read_no_digits minus whole fraction None h = refl
read_no_digits minus whole fraction (Some e) h = sym (none_test (is_numeral (whole ++ fraction)) _ _ h)

pub read_no_exponent : (minus : Bool) (whole fraction : List ℕ) (e : Option (Bool × ℕ)) → option_map capped e ≡ None → none ≡ decimal_of minus whole fraction e
read_no_exponent minus whole fraction None h = refl
read_no_exponent minus whole fraction (Some e) h = absurd cc
