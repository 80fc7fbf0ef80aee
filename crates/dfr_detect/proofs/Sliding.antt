-- A correlation, after a sample more.
use Rattle.std.proofs.Common.{◌≡◌, ◌∙◌, sym, ap, refl, ℕ, zero, suc, ◌+◌, ◌*◌, ◌-◌, ◌<◌, ◌≤◌, inl, inr, Bool, List, [], ◌∷◌, length, take, arith, ℤ, pos, ◌+ℤ◌, ◌-ℤ◌, Option, Some, None}
use Rattle.std.specs.Prelude.{slice_get, unsigned_abs, ◌==◌}
use Rattle.std.specs.List.{All}
use Rattle.std.proofs.lemmas.Bool.{cases_lt}
use Rattle.std.proofs.lemmas.Bool.Decides.{nat_tests}
use Rattle.std.proofs.lemmas.Int.{ints}
use Rattle.std.proofs.lemmas.List.{take_all}
use Rattle.std.proofs.lemmas.List.Elements.{All-head, All-tail}
use Rattle.dfr_detect.specs.Sums.{AreSmall}
use Rattle.dfr_detect.specs.Phasors.{after, before, correlation, nothing, gone}
use Rattle.dfr_detect.specs.declared.sample.Sample.{Sample}
use Rattle.dfr_detect.proofs.Leaving.{past_end}

-- so many numbers back
abbrev back : ℕ → ℕ → ℕ → ℕ
back n k zero = k
back n k (suc j) = back n (before n k) j

before_after : (n k : ℕ) → k < n → before n (after n k) ≡ k
before_after n k h = grind (arith, nat_tests)

pub after_low : (n k : ℕ) → k < n → after n k < n
after_low n k h = grind (arith, nat_tests)

back_low : (n k j : ℕ) → j ≤ k → back n k j ≡ k - j
back_low n k zero h = omega arith
back_low n zero (suc j) h = absurd (omega arith)
back_low n (suc k) (suc j) h =
    let one : before n (suc k) ≡ k = grind (arith, nat_tests) in
    ap (λ (i : ℕ). back n i j) one ∙ back_low n k j (omega arith) ∙ omega arith

back_high : (n k j : ℕ) → k < j → k < n → j ≤ n → back n k j ≡ k + n - j
back_high n k zero h l m = absurd (omega arith)
back_high n zero (suc j) h l m =
    let one : before n zero ≡ n - 1 = grind (arith, nat_tests) in
    ap (λ (i : ℕ). back n i j) one ∙ back_low n (n - 1) j (omega arith) ∙ omega arith
back_high n (suc k) (suc j) h l m =
    let one : before n (suc k) ≡ k = grind (arith, nat_tests) in
    ap (λ (i : ℕ). back n i j) one ∙ back_high n k j (omega arith) (omega arith) (omega arith) ∙ omega arith

-- the sample that leaves has the number of the one that comes
back_round : (n m k : ℕ) → n ≡ m + 1 → k < n → back n k m ≡ after n k
back_round n m k e h =
    elim (cases_lt k m) [
      | inl less ↦ back_high n k m less h (omega arith) ∙ grind (arith, nat_tests)
      | inr more ↦ back_low n k m more ∙ grind (arith, nat_tests)
    ]

added : (p q r s : ℤ) → q ≡ r +ℤ s → p +ℤ q ≡ p +ℤ r +ℤ s
added p q r s e = omega (arith, ints, e)

-- a sample further back
one_more : (f : ℕ → Sample → ℤ) (n k j : ℕ) (xs : List Sample) (y : Sample) → slice_get xs j ≡ Some y
    → correlation f n k (take (suc j) xs) ≡ correlation f n k (take j xs) +ℤ f (back n k j) y
one_more f n k j [] y e = absurd cc
one_more f n k zero (x ∷ xs) y e =
    let same : x ≡ y = cc in
    ap (λ (v : Sample). f k v +ℤ pos 0) same ∙ omega (arith, ints)
one_more f n k (suc j) (x ∷ xs) y e =
    added (f k x) (correlation f n (before n k) (take (suc j) xs)) (correlation f n (before n k) (take j xs)) (f (back n (before n k) j) y) (one_more f n (before n k) j xs y e)

came : (a b p q : ℤ) → a ≡ b +ℤ q → p +ℤ b ≡ a +ℤ (p -ℤ q)
came a b p q e = omega (arith, ints, e)

stayed : (a p q : ℤ) → q ≡ pos 0 → p +ℤ a ≡ a +ℤ (p -ℤ q)
stayed a p q e = omega (arith, ints, e)

front : (f : ℕ → Sample → ℤ) (n k : ℕ) (xs : List Sample) → k < n → correlation f n (before n (after n k)) xs ≡ correlation f n k xs
front f n k xs h = ap (λ (i : ℕ). correlation f n i xs) (before_after n k h)

slides : (f : ℕ → Sample → ℤ) (n m k : ℕ) (x : Sample) (xs : List Sample) (left : Option Sample) → n ≡ suc m → k < n → length xs ≤ n → slice_get (x ∷ xs) n ≡ left
    → ((i : ℕ) → f i nothing ≡ pos 0) → correlation f n (after n k) (take n (x ∷ xs)) ≡ correlation f n k xs +ℤ (f (after n k) x -ℤ f (after n k) (gone left))
slides f n m k x xs None e h few is none =
    let all = take_all n (x ∷ xs) (past_end (x ∷ xs) n is) in
    ap (correlation f n (after n k)) all
    ∙ ap (λ (a : ℤ). f (after n k) x +ℤ a) (front f n k xs h)
    ∙ stayed (correlation f n k xs) (f (after n k) x) (f (after n k) nothing) (none (after n k))
slides f n m k x xs (Some y) e h few is none =
    let at : slice_get xs m ≡ Some y = sym (ap (slice_get (x ∷ xs)) e) ∙ is in
    let whole : take (suc m) xs ≡ xs = take_all (suc m) xs (omega arith) in
    let last = one_more f n k m xs y at in
    let round = back_round n m k (omega arith) h in
    let sum : correlation f n k xs ≡ correlation f n k (take m xs) +ℤ f (after n k) y =
    sym (ap (correlation f n k) whole) ∙ last ∙ ap (λ (i : ℕ). correlation f n k (take m xs) +ℤ f i y) round in
    ap (λ (i : ℕ). correlation f n (after n k) (take i (x ∷ xs))) e
    ∙ ap (λ (a : ℤ). f (after n k) x +ℤ a) (front f n k (take m xs) h)
    ∙ came (correlation f n k xs) (correlation f n k (take m xs)) (f (after n k) x) (f (after n k) y) sum

pub correlation_slides : (f : ℕ → Sample → ℤ) (n k : ℕ) (x : Sample) (xs : List Sample) (left : Option Sample) → k < n → length xs ≤ n → slice_get (x ∷ xs) n ≡ left
    → ((i : ℕ) → f i nothing ≡ pos 0) → correlation f n (after n k) (take n (x ∷ xs)) ≡ correlation f n k xs +ℤ (f (after n k) x -ℤ f (after n k) (gone left))
correlation_slides f zero k x xs left h few is none = absurd (omega arith)
correlation_slides f (suc m) k x xs left h few is none = slides f (suc m) m k x xs left refl h few is none

both : (a b : ℤ) (m n : ℕ) → unsigned_abs a ≤ m → unsigned_abs b ≤ n → unsigned_abs (a +ℤ b) ≤ m + n
both a b m n p q = omega (arith, ints)

-- how large it can be
pub correlation_bounded : (f : ℕ → Sample → ℤ) (n k m : ℕ) (xs : List Sample) → ((i : ℕ) (x : Sample) → AreSmall x → unsigned_abs (f i x) ≤ m) → All AreSmall xs → unsigned_abs (correlation f n k xs) ≤ length xs * m
correlation_bounded f n k m [] g small = omega arith
correlation_bounded f n k m (x ∷ xs) g small =
    let this = g k x (All-head AreSmall x xs small) in
    let rest = correlation_bounded f n (before n k) m xs g (All-tail AreSmall x xs small) in
    let all = both (f k x) (correlation f n (before n k) xs) m (length xs * m) this rest in
    omega (arith, all)
