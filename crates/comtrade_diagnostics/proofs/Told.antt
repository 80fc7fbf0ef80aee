-- Of lists that are walked from their start.
use Rattle.std.proofs.Common.{◌≡◌, ℕ, ◌+◌, ◌<◌, subst, arith, inl, inr}
use Rattle.std.proofs.lemmas.Bool.{cases_lt}

-- what holds below a number and at it holds below the next
pub below_more : (P : ℕ → Type 0) (n : ℕ) → ((i : ℕ) → i < n → P i) → P n → (i : ℕ) → i < n + 1 → P i
below_more P n before here i lt = elim (cases_lt i n) [
  | inl less ↦ before i less
  | inr same ↦ let is : n ≡ i = omega arith in subst P is here
]
