-- Padded numbers, digit by digit from the end.
use Rattle.std.proofs.Common.{◌≡◌, ℕ, zero, suc, ◌+◌, ◌-◌, ◌/◌, ◌%◌, ◌^◌, ◌<◌, ◌≤◌, List, [], ◌∷◌, ◌++◌, length, refl, sym, ap, arith, append_assoc, length-append, inl, inr}
use Rattle.std.specs.List.{repeat}
use Rattle.std.specs.Fmt.{decimal}
use Rattle.std.proofs.lemmas.Fmt.{decimal_digit, decimal_step}
use Rattle.std.proofs.lemmas.Bool.{cases_lt}
use Rattle.comtrade_values.specs.Written.{filled, padded}

repeat_last : (z k : ℕ) → repeat k (z ∷ []) ++ z ∷ [] ≡ z ∷ repeat k (z ∷ [])
repeat_last z zero = refl
repeat_last z (suc k) = ap (λ (xs : List ℕ). z ∷ xs) (repeat_last z k)

small : (k n : ℕ) → n < 10 → padded (suc (suc k)) n ≡ padded (suc k) (n / 10) ++ (48 + n % 10) ∷ []
unfolding padded filled
small k n h =
    let q : n / 10 ≡ 0 = omega arith in
    let r : n % 10 ≡ n = omega arith in
    let one = decimal_digit n h in
    let none = decimal_digit 0 (omega arith) in
    let drop_one : suc k - 1 ≡ k = omega arith in
    let drop_two : suc (suc k) - 1 ≡ suc k = omega arith in
    rw (q, r, one, none, drop_one, drop_two) (sym (ap (λ (xs : List ℕ). xs ++ (48 + n) ∷ []) (repeat_last 48 k)))

large : (k n : ℕ) → 10 ≤ n → n < 2 ^ 64 → padded (suc (suc k)) n ≡ padded (suc k) (n / 10) ++ (48 + n % 10) ∷ []
unfolding padded filled
large k n low high =
    let step = decimal_step n low high in
    let len : length (decimal (n / 10) ++ (48 + n % 10) ∷ []) ≡ length (decimal (n / 10)) + 1 = length-append (decimal (n / 10)) ((48 + n % 10) ∷ []) in
    let less : suc (suc k) - (length (decimal (n / 10)) + 1) ≡ suc k - length (decimal (n / 10)) = omega arith in
    rw (step, len, less) (sym (append_assoc (repeat (suc k - length (decimal (n / 10))) (48 ∷ [])) (decimal (n / 10)) ((48 + n % 10) ∷ [])))

-- one more digit
pub padded_more : (k n : ℕ) → n < 2 ^ 64 → padded (suc (suc k)) n ≡ padded (suc k) (n / 10) ++ (48 + n % 10) ∷ []
padded_more k n h = elim (cases_lt n 10) [ inl lt ↦ small k n lt | inr le ↦ large k n le h ]

pub padded_one : (n : ℕ) → n < 10 → padded 1 n ≡ (48 + n) ∷ []
unfolding padded filled
padded_one n h = rw (decimal_digit n h) refl

pub padded_two : (n : ℕ) → n < 100 → padded 2 n ≡ (48 + n / 10) ∷ (48 + n % 10) ∷ []
padded_two n h =
    let a = padded_more 0 n (omega arith) in
    let b = padded_one (n / 10) (omega arith) in
    rw (a, b) refl

-- two more digits
pub padded_pair : (k n : ℕ) → n < 2 ^ 64 → padded (suc (suc (suc k))) n ≡ padded (suc k) (n / 100) ++ padded 2 (n % 100)
padded_pair k n h =
    let a = padded_more (suc k) n h in
    let b = padded_more k (n / 10) (omega arith) in
    let c = padded_two (n % 100) (omega arith) in
    let q : n / 10 / 10 ≡ n / 100 = omega arith in
    let t : n % 100 / 10 ≡ n / 10 % 10 = omega arith in
    let o : n % 100 % 10 ≡ n % 10 = omega arith in
    rw (a, b, c, q, t, o) (append_assoc (padded (suc k) (n / 100)) ((48 + n / 10 % 10) ∷ []) ((48 + n % 10) ∷ []))

pub padded_four : (n : ℕ) → n < 10000 → padded 4 n ≡ padded 2 (n / 100) ++ padded 2 (n % 100)
padded_four n h = padded_pair 1 n (omega arith)

pub padded_six : (n : ℕ) → n < 1000000 → padded 6 n ≡ padded 4 (n / 100) ++ padded 2 (n % 100)
padded_six n h = padded_pair 3 n (omega arith)
