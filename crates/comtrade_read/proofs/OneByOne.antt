-- The fields of a line, one after the other.
use Rattle.std.proofs.Common.{◌≡◌, ℕ, suc, ◌+◌, ◌<◌, ◌≤◌, Bool, true, false, cond, eqb, ltb, List, [], ◌∷◌, length, map, get_or, take, drop, Some, None, refl, ap, ◌∙◌, arith, length-drop}
use Rattle.std.specs.Prelude.{position, not}
use Rattle.std.specs.List.{count_by, position_or_len, slice_split, AllByRecursion}
use Rattle.std.proofs.lemmas.List.{length-map, drop-drop, get_or-drop}
use Rattle.std.proofs.lemmas.List.Elements.{All-from_recursion}
use Rattle.std.proofs.lemmas.List.Splits.{length-slice_split, slice_split_first, slice_split_none}
use Rattle.std.proofs.lemmas.Bool.{ltb-true, ltb-false}
use Rattle.comtrade_values.specs.Spelling.{trimmed}
use Rattle.comtrade_values.specs.Lines.{fields, field}
use Rattle.comtrade_values.proofs.Cuts.{before_some, after_some}

abbrev is_comma : ℕ → Bool
is_comma b = eqb b 44

pub many : (line : List ℕ) → length (fields line) ≡ count_by is_comma line + 1
many line = length-map (slice_split is_comma line) trimmed ∙ length-slice_split is_comma line

-- ---- the first field

pub cut_some : (line : List ℕ) (at : ℕ) → position is_comma line ≡ Some at → (field (fields line) 0 ≡ trimmed (take at line)) × (drop 1 (fields line) ≡ fields (drop (at + 1) line))
cut_some line at e =
    let n = position_or_len is_comma line in
    let lt : n < length line = less (ltb n (length line)) refl e in
    let split : slice_split is_comma line ≡ take at line ∷ slice_split is_comma (drop (at + 1) line) =
    slice_split_first is_comma line 0 lt ∙ rw (before_some is_comma line at e, after_some is_comma line at e) refl in
    (ap (λ ps. get_or (map trimmed ps) 0 []) split, ap (λ ps. drop 1 (map trimmed ps)) split)
  where
    less : (b : Bool) → ltb (position_or_len is_comma line) (length line) ≡ b → cond b (Some (position_or_len is_comma line)) None ≡ Some at → position_or_len is_comma line < length line
    less true t h = ltb-true _ _ t
    less false t h = absurd cc

fail_all : (line : List ℕ) → length line ≤ position_or_len is_comma line → AllByRecursion (λ b. is_comma b ≡ false) line
fail_all [] le = tt
fail_all (x ∷ xs) le = with_test (λ h. fail_all xs h) (is_comma x) refl le
  where
    with_test : (length xs ≤ position_or_len is_comma xs → AllByRecursion (λ b. is_comma b ≡ false) xs) → (b : Bool) → is_comma x ≡ b → suc (length xs) ≤ cond (not b) (1 + position_or_len is_comma xs) 0
        → AllByRecursion (λ b. is_comma b ≡ false) (x ∷ xs)
    with_test rest true t h = absurd (omega arith)
    with_test rest false t h = (t, rest (omega arith))

pub cut_none : (line : List ℕ) → position is_comma line ≡ None → fields line ≡ trimmed line ∷ []
cut_none line e =
    let le = most (ltb (position_or_len is_comma line) (length line)) refl e in
    ap (map trimmed) (slice_split_none is_comma line (All-from_recursion (λ b. is_comma b ≡ false) line (fail_all line le)))
  where
    most : (b : Bool) → ltb (position_or_len is_comma line) (length line) ≡ b → cond b (Some (position_or_len is_comma line)) None ≡ None → length line ≤ position_or_len is_comma line
    most true t h = absurd cc
    most false t h = ltb-false _ _ t

-- ---- the field after so many

pub at_left : (fs gs : List (List ℕ)) (i : ℕ) → i < length fs → (i < length fs → gs ≡ drop i fs) → field gs 0 ≡ field fs i
at_left fs gs i lt e = let z : i + 0 ≡ i = omega arith in ap (λ (xs : List (List ℕ)). get_or xs 0 []) (e lt) ∙ get_or-drop i fs 0 [] ∙ ap (λ (n : ℕ). get_or fs n []) z

pub next_left : (fs gs hs : List (List ℕ)) (i : ℕ) → i < length fs → (i < length fs → gs ≡ drop i fs) → (1 < length gs → hs ≡ drop 1 gs) → i + 1 < length fs → hs ≡ drop (i + 1) fs
next_left fs gs hs i lt e n more =
    let is = e lt in
    let one : 1 < length gs = rw is (omega (arith, length-drop i fs)) in
    n one ∙ ap (λ (xs : List (List ℕ)). drop 1 xs) is ∙ drop-drop 1 i fs
