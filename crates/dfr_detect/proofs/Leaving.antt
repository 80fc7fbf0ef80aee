-- A sum over the last items, after an item more.
use Rattle.std.proofs.Common.{◌≡◌, ap, ℕ, ◌+◌, ◌≤◌, inl, inr, List, ◌∷◌, length, take, Some, None, arith}
use Rattle.std.specs.Prelude.{slice_get}
use Rattle.std.specs.List.{sum_by}
use Rattle.std.proofs.lemmas.List.{take_all}
use Rattle.std.proofs.lemmas.List.Sums.{sum_by_more, sum_by-cons}
use Rattle.std.proofs.lemmas.Option.{slice_get_cases, slice_get_within, get_or_from_slice_get}

pub past_end : {X : Type 0} (xs : List X) (i : ℕ) → slice_get xs i ≡ None → length xs ≤ i
past_end xs i e = elim (slice_get_cases xs i).1 [ inl w ↦ absurd (cc (w.2, e)) | inr w ↦ w.0 ]

-- nothing leaves: all items stay
pub none_leaves : {X : Type 0} (f : X → ℕ) (x : X) (xs : List X) (n : ℕ) → slice_get (x ∷ xs) n ≡ None → sum_by f (take n (x ∷ xs)) ≡ sum_by f xs + f x
none_leaves f x xs n e =
    let all = take_all n (x ∷ xs) (past_end (x ∷ xs) n e) in
    let more = sum_by-cons f x xs in
    let same = ap (sum_by f) all in
    omega (arith, same, more)

-- the oldest leaves
pub one_leaves : {X : Type 0} (f : X → ℕ) (x y : X) (xs : List X) (n : ℕ) → length xs ≤ n → slice_get (x ∷ xs) n ≡ Some y → sum_by f (take n (x ∷ xs)) + f y ≡ sum_by f xs + f x
one_leaves f x y xs n few e =
    let at = slice_get_within (x ∷ xs) n y e in
    let all = take_all (n + 1) (x ∷ xs) (omega arith) in
    let cut = sum_by_more f (x ∷ xs) n y at in
    let more = sum_by-cons f x xs in
    let same = ap (sum_by f) all in
    let leaves = ap f (get_or_from_slice_get (x ∷ xs) n y y e) in
    omega (arith, same, more, cut, leaves)
