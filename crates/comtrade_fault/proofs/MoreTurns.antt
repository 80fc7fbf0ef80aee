-- The sum of turns with one row more.
use Rattle.std.proofs.Common.{◌≡◌, ℕ, ◌+◌, List, map, refl, ap, ◌∙◌}
use Rattle.std.specs.Prelude.{sum}
use Rattle.std.specs.List.{range_with_len}
use Rattle.std.proofs.lemmas.List.FromFn.{map-range_with_len_more}
use Rattle.std.proofs.lemmas.List.Sums.{sum_by_push}
use Rattle.comtrade_fault.specs.Turning.{turn, turns}
use Rattle.comtrade_fault.specs.declared.scan.Scan.{Scan}
use Rattle.comtrade_fault.specs.declared.scan.Weights.{Weights}
use Rattle.comtrade_fault.specs.declared.scan.Signal.{Signal}
use Rattle.comtrade_fault.specs.declared.turn.Remainder.{Remainder}

module _ (scans : List Scan) (w : Weights) (s : Signal) (lag cycle : ℕ) (r : Remainder) (first n : ℕ) where
  pub turns_more : turns scans w s lag cycle r first (n + 1) ≡ turns scans w s lag cycle r first n + turn scans w s lag cycle r (first + n)
  unfolding turns
  turns_more =
      ap (λ (xs : List ℕ). sum xs) (map-range_with_len_more (turn scans w s lag cycle r) first n (first + n) refl)
      ∙ sum_by_push (λ (x : ℕ). x) (map (turn scans w s lag cycle r) (range_with_len first n)) (turn scans w s lag cycle r (first + n))
