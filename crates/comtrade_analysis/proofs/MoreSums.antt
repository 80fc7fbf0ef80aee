-- Sums with one sample more.
use Rattle.std.proofs.Common.{◌≡◌, ℕ, ◌+◌, ℤ, pos, ◌+ℤ◌, List, [], ◌∷◌, ◌++◌, sym, ap, ◌∙◌}
use Rattle.std.proofs.lemmas.List.{length_push}
use Rattle.std.proofs.lemmas.List.Sums.{fold_push, sum_by_push}
use Rattle.comtrade_analysis.specs.Sums.{square, AreSums}
use Rattle.comtrade_analysis.specs.declared.sums.Sums.{Sums}

pub sums_more : (xs : List ℤ) (s t : Sums) (x : ℤ) → AreSums xs s → t.count ≡ s.count + 1 → t.sum ≡ s.sum +ℤ x → t.squares ≡ s.squares + square x
    → AreSums (xs ++ x ∷ []) t
sums_more xs s t x h count sum squares = record {
  count = count ∙ ap (λ (n : ℕ). n + 1) h.count ∙ sym (length_push xs x);
  sum = sum ∙ ap (λ (z : ℤ). z +ℤ x) h.sum ∙ sym (fold_push ◌+ℤ◌ (pos 0) xs x);
  squares = squares ∙ ap (λ (n : ℕ). n + square x) h.squares ∙ sym (sum_by_push square xs x);
}
