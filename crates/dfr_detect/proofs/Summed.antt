-- The sum of the squares of a window, after a sample more.
use Rattle.std.proofs.Common.{◌≡◌, sym, subst, ℕ, ◌+◌, ◌-◌, ◌*◌, ◌^◌, ◌≤◌, List, ◌∷◌, length, take, Some, None, arith, ℤ, pos}
use Rattle.std.specs.Prelude.{slice_get, unsigned_abs}
use Rattle.std.specs.List.{All}
use Rattle.std.proofs.Math.Nat.{mul-le-mul, mul-le-mul_right}
use Rattle.std.proofs.lemmas.List.{length-take, get_or_past}
use Rattle.std.proofs.lemmas.List.Elements.{All-weaker, All-take, All-cons}
use Rattle.std.proofs.lemmas.List.Sums.{sum_by-le}
use Rattle.circular_buffer.specs.Buffer.{Buffer, buffer}
use Rattle.dfr_detect.specs.Windows.{square, sum_of_squares, ago}
use Rattle.dfr_detect.specs.Sums.{IsSmall, IsSummed}
use Rattle.dfr_detect.proofs.Leaving.{past_end, none_leaves, one_leaves}

pub square_small : (x : ℤ) → unsigned_abs x ≤ 2 ^ 39 → square x ≤ 2 ^ 78
square_small x h = mul-le-mul h h

-- the sum of samples, as many as there are places
pub squares_few : (xs : List ℤ) (n : ℕ) → length xs ≤ n → All IsSmall xs → sum_of_squares xs ≤ n * 2 ^ 78
squares_few xs n few small =
    let most = sum_by-le square (2 ^ 78) xs (All-weaker IsSmall (λ x. square x ≤ 2 ^ 78) square_small xs small) in
    let wide = mul-le-mul_right (2 ^ 78) few in
    omega (arith, most, wide)

pub squares_bounded : (xs : List ℤ) (n s : ℕ) → IsSummed xs n s → s ≤ 2 ^ 96
squares_bounded xs n s h =
    let most = squares_few xs n h.few h.small in
    let wide = mul-le-mul_right (2 ^ 78) h.bounded in
    omega (arith, most, wide, h.summed)

after : (xs : List ℤ) (b : Buffer ℤ) (n s : ℕ) → b ≡ buffer (take n xs) n → s ≡ sum_of_squares (take n xs) → All IsSmall xs → n ≤ 2 ^ 18 → IsSummed b.items b.capacity s
after xs b n s e summed small bounded = subst (λ (w : Buffer ℤ). IsSummed w.items w.capacity s) (sym e) (record {
  summed = summed;
  small = All-take IsSmall n xs small;
  few = let short = length-take n xs in omega (arith, short);
  bounded = bounded;
})

-- the window after a sample that pushes none out; p is its square
pub summed_none : (x : ℤ) (xs : List ℤ) (b : Buffer ℤ) (n s p : ℕ) → IsSummed xs n s → unsigned_abs x ≤ 2 ^ 39 → slice_get (x ∷ xs) n ≡ None → b ≡ buffer (take n (x ∷ xs)) n → p ≡ square x → IsSummed b.items b.capacity (s + p)
summed_none x xs b n s p h small e took is =
    let kept = none_leaves square x xs n e in
    after (x ∷ xs) b n (s + p) took (omega (arith, kept, is, h.summed)) (All-cons IsSmall x xs small h.small) h.bounded

-- the window after a sample that pushes one out; q is the square of that one
pub summed_one : (x y : ℤ) (xs : List ℤ) (b : Buffer ℤ) (n s p q : ℕ) → IsSummed xs n s → unsigned_abs x ≤ 2 ^ 39 → slice_get (x ∷ xs) n ≡ Some y → b ≡ buffer (take n (x ∷ xs)) n → p ≡ square x → q ≡ square y → IsSummed b.items b.capacity ((s + p) - q)
summed_one x y xs b n s p q h small e took is left =
    let cut = one_leaves square x y xs n h.few e in
    after (x ∷ xs) b n ((s + p) - q) took (omega (arith, cut, is, left, h.summed)) (All-cons IsSmall x xs small h.small) h.bounded

pub ago_past : (n : ℕ) (xs : List ℤ) → None ≡ slice_get xs n → pos 0 ≡ ago n xs
ago_past n xs e = sym (get_or_past xs n (pos 0) (past_end xs n (sym e)))
