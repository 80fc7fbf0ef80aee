-- Rows one after the other, and rows behind them.
use Rattle.std.proofs.Common.{◌≡◌, ℕ, List, [], ◌∷◌, ◌++◌, refl, ap, sym, ◌∙◌, append_assoc}
use Rattle.std.specs.List.{concat, AllZip}
use Rattle.comtrade_format.specs.Parts.{RowParts}
use Rattle.comtrade_read.specs.Reads.{IsRowOf, ReadsBinary}

joined : (ps qs : List (List ℕ)) → concat (ps ++ qs) ≡ concat ps ++ concat qs
joined [] qs = refl
joined (p ∷ ps) qs = ap (λ (l : List ℕ). p ++ l) (joined ps qs) ∙ sym (append_assoc p (concat ps) (concat qs))

module _ (k m : ℕ) where
  both : (ps qs : List (List ℕ)) (xs ys : List RowParts) → AllZip (IsRowOf k m) ps xs → AllZip (IsRowOf k m) qs ys
      → AllZip (IsRowOf k m) (ps ++ qs) (xs ++ ys)
  both [] qs [] ys h g = g
  both [] qs (x ∷ xs) ys h g = absurd h
  both (p ∷ ps) qs [] ys h g = absurd h
  both (p ∷ ps) qs (x ∷ xs) ys h g = (h.0, both ps qs xs ys h.1 g)

pub pieces_read : (k m : ℕ) (front back : List ℕ) (xs ys : List RowParts) → ReadsBinary k m front xs → ReadsBinary k m back ys
    → ReadsBinary k m (front ++ back) (xs ++ ys)
pieces_read k m front back xs ys p q = record {
  parts = p.parts ++ q.parts;
  bytes = ap (λ (l : List ℕ). l ++ back) p.bytes ∙ ap (λ (l : List ℕ). concat p.parts ++ l) q.bytes ∙ sym (joined p.parts q.parts);
  each = both k m p.parts q.parts xs ys p.each q.each;
}
