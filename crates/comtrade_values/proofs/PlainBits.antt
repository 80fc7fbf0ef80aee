-- A text of plain bits, cut into its fields bit by bit.
use Rattle.std.proofs.Common.{◌≡◌, ◌⊎◌, ℕ, ◌+◌, ◌*◌, ◌<◌, Bool, true, false, cond, ltb, List, [], ◌∷◌, length, slice_index, drop, Some, refl, ap, ◌∙◌, arith, ⊎_elim}
use Rattle.std.specs.Prelude.{◌==◌}
use Rattle.std.proofs.lemmas.Bool.{lt-ltb, ltb-true, ltb-false}
use Rattle.std.proofs.lemmas.List.{drop_more, drop_all}
use Rattle.comtrade_values.specs.Fields.{bit}
use Rattle.comtrade_values.specs.Lines.{fields}
use Rattle.comtrade_values.specs.PlainBits.{AreBits}

pub bit_digit : (d : ℕ) → (d ≡ 48) ⊎ (d ≡ 49) → bit (d ∷ []) ≡ Some (d == 49)
unfolding bit
bit_digit d is = ⊎_elim (λ e. rw e refl) (λ e. rw e refl) is

digit_first : (d : ℕ) (rest : List ℕ) → (d ≡ 48) ⊎ (d ≡ 49) → fields (d ∷ 44 ∷ rest) ≡ (d ∷ []) ∷ fields rest
digit_first d rest is = ⊎_elim (λ e. rw e refl) (λ e. rw e refl) is

digit_last : (d : ℕ) → (d ≡ 48) ⊎ (d ≡ 49) → fields (d ∷ []) ≡ (d ∷ []) ∷ []
digit_last d is = ⊎_elim (λ e. rw e refl) (λ e. rw e refl) is

-- the fields from bit i of n on
abbrev pub bits_from : List ℕ → ℕ → ℕ → List (List ℕ)
bits_from text n i = cond (ltb i n) (fields (drop (2 * i) text)) []

module _ (text : List ℕ) (n : ℕ) (are : AreBits text n) (exact : length text + 1 ≡ 2 * n) where
  inner : (i : ℕ) → i + 1 < n → fields (drop (2 * i) text) ≡ (slice_index text (2 * i) ∷ []) ∷ fields (drop (2 * (i + 1)) text)
  inner i less =
      let here = drop_more text (2 * i) 0 (omega arith) in
      let next = drop_more text (2 * i + 1) 0 (omega arith) in
      let places : 2 * i + 1 + 1 ≡ 2 * (i + 1) = omega arith in
      let cut : drop (2 * i) text ≡ slice_index text (2 * i) ∷ 44 ∷ drop (2 * (i + 1)) text = here ∙ ap (λ l. slice_index text (2 * i) ∷ l) (next ∙ rw (are.commas i less, places) refl) in
      ap fields cut ∙ digit_first (slice_index text (2 * i)) (drop (2 * (i + 1)) text) (are.digits i (omega arith))

  final : (i : ℕ) → i + 1 ≡ n → fields (drop (2 * i) text) ≡ (slice_index text (2 * i) ∷ []) ∷ []
  final i is =
      let here = drop_more text (2 * i) 0 (omega arith) in
      let cut : drop (2 * i) text ≡ slice_index text (2 * i) ∷ [] = here ∙ ap (λ l. slice_index text (2 * i) ∷ l) (drop_all (2 * i + 1) text (omega arith)) in
      ap fields cut ∙ digit_last (slice_index text (2 * i)) (are.digits i (omega arith))

  pub next_bit : (i : ℕ) → i < n → bits_from text n i ≡ (slice_index text (2 * i) ∷ []) ∷ bits_from text n (i + 1)
  next_bit i less = with_test (ltb (i + 1) n) refl
    where
      with_test : (b : Bool) → ltb (i + 1) n ≡ b → bits_from text n i ≡ (slice_index text (2 * i) ∷ []) ∷ bits_from text n (i + 1)
      with_test true t = rw (lt-ltb i n less, t) (inner i (ltb-true (i + 1) n t))
      with_test false t = let is : i + 1 ≡ n = omega (arith, ltb-false (i + 1) n t) in rw (lt-ltb i n less, t) (final i is)
