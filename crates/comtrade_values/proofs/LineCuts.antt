-- A text cut at its first line feed, and at its last.
use Rattle.std.proofs.Common.{◌≡◌, ℕ, ◌+◌, ◌<◌, ◌≤◌, Bool, true, false, List, [], ◌∷◌, ◌++◌, length, map, slice_index, slice_index_or, take, drop, Some, None, refl, sym, ap, ◌∙◌, arith, ⊎_elim}
use Rattle.std.specs.List.{All, slice_split, onto_first}
use Rattle.std.proofs.lemmas.Bool.{cases_Bool}
use Rattle.std.proofs.lemmas.List.{map-append, take-append-drop, drop_more, get_or_default, get_or-take, get_or-drop, length-take-le, length-drop, take_rest, length-map}
use Rattle.std.proofs.lemmas.List.Sums.{count_by-le-length}
use Rattle.std.proofs.lemmas.List.Splits.{slice_split_none, slice_split_at, slice_split-cons_yes, length-slice_split}
use Rattle.memchr.specs.Find.{IsFirstByte, IsLastByte, is_byte}
use Rattle.comtrade_values.specs.Lines.{without_cr, cut_lines}

module _ {X : Type 0} (p : X → Bool) where
  onto_first-append : (x : X) (parts rest : List (List X)) → 0 < length parts → onto_first x (parts ++ rest) ≡ onto_first x parts ++ rest
  onto_first-append x [] rest l = absurd (omega arith)
  onto_first-append x (part ∷ parts) rest l = refl

  -- the last part begins after the last element that passes
  pub slice_split_last : (xs : List X) (y : X) (ys : List X) → p y ≡ true → All (λ x. p x ≡ false) ys → slice_split p (xs ++ y ∷ ys) ≡ slice_split p xs ++ ys ∷ []
  slice_split_last [] y ys e h = slice_split-cons_yes p y ys e ∙ ap (λ l. [] ∷ l) (slice_split_none p ys h)
  slice_split_last (x ∷ xs) y ys e h = with_test (slice_split_last xs y ys e h) (p x) refl
    where
      with_test : slice_split p (xs ++ y ∷ ys) ≡ slice_split p xs ++ ys ∷ [] → (b : Bool) → p x ≡ b → slice_split p (x ∷ xs ++ y ∷ ys) ≡ slice_split p (x ∷ xs) ++ ys ∷ []
      with_test later true t = rw (t, later) refl
      with_test later false t =
          rw (t, later) (onto_first-append x (slice_split p xs) (ys ∷ []) (omega (arith, length-slice_split p xs)))

-- a text around the place of a byte
around : (text : List ℕ) (at : ℕ) → at < length text → text ≡ take at text ++ slice_index text at ∷ drop (at + 1) text
around text at l = sym (take-append-drop at text) ∙ ap (λ xs. take at text ++ xs) (drop_more text at 0 l)

fails_at : (text : List ℕ) (k d : ℕ) → k < length text → ¬ (is_byte 10 (slice_index text k) ≡ true) → is_byte 10 (slice_index_or text k d) ≡ false
fails_at text k d l none = rw (get_or_default text k d 0 l) (⊎_elim (λ t. absurd (none t)) (λ f. f) (cases_Bool _))

pub cut_first : (text : List ℕ) (at : ℕ) → IsFirstByte (is_byte 10) text (Some at) → cut_lines text ≡ without_cr (take at text) ∷ cut_lines (drop (at + 1) text)
cut_first text at found =
    let front : All (λ x. is_byte 10 x ≡ false) (take at text) = λ k d l.
    let within : k < at = omega (arith, length-take-le at text (omega (arith, found.0.high))) in
    rw (get_or-take at text k d within) (fails_at text k d (omega (arith, found.0.high)) (found.0.before k (omega arith) within)) in
    ap cut_lines (around text at found.0.high) ∙ ap (map without_cr) (slice_split_at (is_byte 10) (take at text) (slice_index text at) (drop (at + 1) text) front found.1)

pub cut_last : (text : List ℕ) (at : ℕ) → IsLastByte (is_byte 10) text (Some at) → cut_lines text ≡ cut_lines (take at text) ++ without_cr (drop (at + 1) text) ∷ []
cut_last text at found =
    let behind : All (λ x. is_byte 10 x ≡ false) (drop (at + 1) text) = λ k d l.
    let within : at + 1 + k < length text = omega (arith, length-drop (at + 1) text) in
    rw (get_or-drop (at + 1) text k d) (fails_at text (at + 1 + k) d within (found.0.after (at + 1 + k) (omega arith) within)) in
    ap cut_lines (around text at found.0.high)
    ∙ ap (map without_cr) (slice_split_last (is_byte 10) (take at text) (slice_index text at) (drop (at + 1) text) found.1 behind)
    ∙ map-append without_cr (slice_split (is_byte 10) (take at text)) (drop (at + 1) text ∷ [])

pub cut_whole : (text : List ℕ) → IsFirstByte (is_byte 10) text None → cut_lines text ≡ without_cr text ∷ []
cut_whole text none =
    ap (map without_cr) (slice_split_none (is_byte 10) text (λ k d l. fails_at text k d l (none k (omega arith) l)))

-- a text has at most a line more than bytes
pub few_lines : (text : List ℕ) → length (cut_lines text) ≤ length text + 1
few_lines text =
    let parts = length-map (slice_split (is_byte 10) text) without_cr in
    omega (arith, parts, length-slice_split (is_byte 10) text, count_by-le-length (is_byte 10) text)

pub ruleset line_cuts = (cut_first, cut_last, cut_whole, take_rest)
