-- The head is passed.
use Rattle.std.proofs.Common.{◌≡◌, ◌∙◌, ℕ, ◌+◌, false, List, Option, Some, None, sym, ap, arith}
use Rattle.std.proofs.lemmas.Bool.{false≢true}
use Rattle.std.specs.Prelude.{drop, take, length, is_some, ◌-◌}
use Rattle.std.proofs.lemmas.List.{drop-drop, length-drop, take_all}
use Rattle.dfr_bus.specs.declared.capture.Capture.{Capture}
use Rattle.dfr_pcap.specs.Pieces.{PiecesParts, head_of, with_head, begun}

abbrev parts : Option Capture → ℕ → List ℕ → PiecesParts
parts c passed bytes = record { capture = c; passed = passed; bytes = bytes }

-- a slice to the end
pub to_the_end : (now items : List ℕ) (at : ℕ) → now ≡ items → take (length now - at) (drop at now) ≡ drop at items
to_the_end now items at e =
    let n = length-drop at now in
    take_all (length now - at) (drop at now) (omega (arith, n)) ∙ ap (λ (b : List ℕ). drop at b) e

pub begun_view : (before : Option Capture) (passed at : ℕ) (items : List ℕ) (c : Capture) (now : PiecesParts)
    → parts before passed (drop at items) ≡ now → is_some before ≡ false → Some c ≡ head_of (drop at items)
    → parts (Some c) (passed + 24) (drop (at + 24) items) ≡ begun now
begun_view None passed at items c now e none h =
    let old = parts None passed (drop at items) in
    let one : begun old ≡ with_head old (Some c) = ap (λ (o : Option Capture). with_head old o) (sym h) in
    let two : with_head old (Some c) ≡ parts (Some c) (passed + 24) (drop (at + 24) items) =
    ap (λ (b : List ℕ). parts (Some c) (passed + 24) b) (drop-drop 24 at items) in
    sym (one ∙ two) ∙ ap (λ (n : PiecesParts). begun n) e
begun_view (Some b) passed at items c now e none h = absurd (false≢true (sym none))
