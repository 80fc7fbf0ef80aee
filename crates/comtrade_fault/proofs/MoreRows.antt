-- Sums and greatest magnitudes with one row more.
use Rattle.std.proofs.Common.{◌≡◌, ℕ, ◌+◌, max, List, map, refl, ap, ◌∙◌}
use Rattle.std.specs.Prelude.{fold, sum}
use Rattle.std.specs.List.{range_with_len}
use Rattle.std.proofs.lemmas.List.FromFn.{map-range_with_len_more}
use Rattle.std.proofs.lemmas.List.Sums.{fold_push, sum_by_push}
use Rattle.comtrade_fault.specs.Levels.{level, sum_over, most_over}
use Rattle.comtrade_fault.specs.declared.scan.Scan.{Scan}
use Rattle.comtrade_fault.specs.declared.scan.Weights.{Weights}
use Rattle.comtrade_fault.specs.declared.scan.Signal.{Signal}
use Rattle.comtrade_fault.specs.declared.form.Form.{Form}

module _ (scans : List Scan) (w : Weights) (s : Signal) (form : Form) (first n : ℕ) where
  pub sum_more : sum_over scans w s form first (n + 1) ≡ sum_over scans w s form first n + level scans w s form (first + n)
  unfolding sum_over
  sum_more =
      ap (λ (xs : List ℕ). sum xs) (map-range_with_len_more (level scans w s form) first n (first + n) refl)
      ∙ sum_by_push (λ (x : ℕ). x) (map (level scans w s form) (range_with_len first n)) (level scans w s form (first + n))

  pub most_more : most_over scans w s form first (n + 1) ≡ max (most_over scans w s form first n) (level scans w s form (first + n))
  unfolding most_over
  most_more =
      ap (fold max 0) (map-range_with_len_more (level scans w s form) first n (first + n) refl)
      ∙ fold_push max 0 (map (level scans w s form) (range_with_len first n)) (level scans w s form (first + n))
