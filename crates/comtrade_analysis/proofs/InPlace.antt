-- A list that a loop rewrites in place, from its first item on.
use Rattle.std.proofs.Common.{◌≡◌, ℕ, ◌+◌, ◌<◌, ◌≤◌, ◌⊎◌, inl, inr, List, length, get_or, set, sym, subst, arith}
use Rattle.std.proofs.lemmas.Bool.{cases_eq}
use Rattle.std.proofs.lemmas.List.{get_or-set_same, get_or-set_other, length-set}

module _ {X : Type 0} (xs : List X) (i : ℕ) (y : X) where
  -- what holds of the items that were written
  pub written : (P : ℕ → X → Type 0) → i < length xs → ((k : ℕ) (d : X) → k < i → P k (get_or xs k d)) → P i y
      → (k : ℕ) (d : X) → k < i + 1 → P k (get_or (set xs i y) k d)
  written P within before here k d lt = at (cases_eq k i)
    where
      at : (k ≡ i) ⊎ (k ≡ i → ⊥) → P k (get_or (set xs i y) k d)
      at (inl same) =
          subst (λ (j : ℕ). P j (get_or (set xs i y) j d)) (sym same)
          (subst (λ (v : X). P i v) (sym (get_or-set_same xs i y d within)) here)
      at (inr other) = subst (λ (v : X). P k v) (sym (get_or-set_other xs i k y d other)) (before k d (omega arith))

  -- and of the others
  pub unwritten : (P : ℕ → X → Type 0) → ((k : ℕ) (d : X) → i ≤ k → k < length xs → P k (get_or xs k d))
      → (k : ℕ) (d : X) → i + 1 ≤ k → k < length (set xs i y) → P k (get_or (set xs i y) k d)
  unwritten P before k d le lt =
      let within : k < length xs = omega (arith, length-set xs i y) in
      subst (λ (v : X). P k v) (sym (get_or-set_other xs i k y d (λ (same : k ≡ i). let no : ⊥ = omega arith in no))) (before k d (omega arith) within)
