-- Disturbances, one after the other.
use Rattle.std.proofs.Common.{◌≡◌, ℕ, zero, suc, ◌*◌, ◌<◌, ◌≤◌, Bool, List, [], ◌∷◌, ◌++◌, length, Option, Some, None, sym, ap, ◌∙◌, append_assoc}
use Rattle.std.specs.Prelude.{if◌then◌else◌}
use Rattle.std.proofs.lemmas.List.{append-nil}
use Rattle.std.proofs.lemmas.Bool.{lt-ltb, le-ltb}
use Rattle.comtrade_fault.specs.Bounding.{bounds_of}
use Rattle.comtrade_fault.specs.Courses.{Course, next_from, resumed, link, onward, chain, disturbances}
use Rattle.comtrade_fault.specs.declared.bounds.Bounds.{Bounds}
use Rattle.comtrade_fault.specs.declared.disturbance.Disturbance.{Disturbance}

module _ (i v : Course) (b : Bounds) (cycle : ℕ) where
  -- no more rows are looked at
  pub chain_end : (n from : ℕ) (found all : List Disturbance) → n ≡ 0 → found ++ chain i v b cycle n from ≡ all → found ≡ all
  chain_end n from found all none h =
      sym (append-nil found) ∙ ap (λ (k : ℕ). found ++ chain i v b cycle k from) (sym none) ∙ h

  -- there is no next one
  pub chain_none : (n from : ℕ) (found all : List Disturbance) → next_from i v b cycle from ≡ None → found ++ chain i v b cycle n from ≡ all → found ≡ all
  chain_none zero from found all nothing h = sym (append-nil found) ∙ h
  chain_none (suc n) from found all nothing h =
      sym (append-nil found)
      ∙ ap (λ (o : Option Disturbance). found ++ link o (λ d. onward (resumed d (length i.scans) cycle) (chain i v b cycle n))) (sym nothing) ∙ h

  module _ (n more from : ℕ) (found all : List Disturbance) (d : Disturbance) (less : more ≡ suc n) (next : next_from i v b cycle from ≡ Some d)
      (h : found ++ chain i v b cycle more from ≡ all) where
    step : found ++ d ∷ onward (resumed d (length i.scans) cycle) (chain i v b cycle n) ≡ all
    step =
        ap (λ (o : Option Disturbance). found ++ link o (λ d. onward (resumed d (length i.scans) cycle) (chain i v b cycle n))) (sym next)
        ∙ ap (λ (k : ℕ). found ++ chain i v b cycle k from) (sym less) ∙ h

    -- and more may follow
    pub chain_some : (row : ℕ) → resumed d (length i.scans) cycle ≡ Some row → (found ++ d ∷ []) ++ chain i v b cycle n row ≡ all
    chain_some row on =
        append_assoc found (d ∷ []) (chain i v b cycle n row)
        ∙ ap (λ (o : Option ℕ). found ++ d ∷ onward o (chain i v b cycle n)) (sym on) ∙ step

    -- it is the last
    pub chain_last : resumed d (length i.scans) cycle ≡ None → found ++ d ∷ [] ≡ all
    chain_last off = ap (λ (o : Option ℕ). found ++ d ∷ onward o (chain i v b cycle n)) (sym off) ∙ step

module _ (i v : Course) (cycle : ℕ) where
  pub few_rows : length i.scans < 3 * cycle → [] ≡ disturbances i v cycle
  few_rows few =
      sym (ap (λ (x : Bool). if x then [] else chain i v (bounds_of i.scans i.weights cycle) cycle (length i.scans) (2 * cycle)) (lt-ltb (length i.scans) (3 * cycle) few))

  pub enough_rows : (b : Bounds) → 3 * cycle ≤ length i.scans → b ≡ bounds_of i.scans i.weights cycle
      → chain i v b cycle (length i.scans) (2 * cycle) ≡ disturbances i v cycle
  enough_rows b enough is =
      ap (λ (x : Bounds). chain i v x cycle (length i.scans) (2 * cycle)) is
      ∙ sym (ap (λ (x : Bool). if x then [] else chain i v (bounds_of i.scans i.weights cycle) cycle (length i.scans) (2 * cycle)) (le-ltb (length i.scans) (3 * cycle) enough))
