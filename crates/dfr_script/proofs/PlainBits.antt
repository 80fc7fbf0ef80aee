-- A text of plain bits, read bit by bit.
use Rattle.std.proofs.Common.{◌≡◌, ◌⊎◌, ℕ, zero, suc, ◌+◌, ◌*◌, ◌/◌, ◌%◌, ◌<◌, Bool, true, false, cond, ltb, List, [], ◌∷◌, ◌++◌, length, slice_index, take, drop, set, Some, refl, ap, ◌∙◌, arith, ⊎_elim}
use Rattle.std.specs.Prelude.{◌==◌}
use Rattle.std.specs.List.{filter_map}
use Rattle.std.proofs.lemmas.Bool.{lt-ltb, ltb-true, ltb-false, eqb-true}
use Rattle.std.proofs.lemmas.List.{drop_more, drop_all, append_assoc, take_more_set}
use Rattle.comtrade_values.specs.Fields.{bit}
use Rattle.dfr_script.specs.Fields.{reads_all}
use Rattle.dfr_script.specs.ScanLines.{fields}
use Rattle.comtrade_values.specs.PlainBits.{AreBits}
use Rattle.comtrade_values.proofs.PlainBits.{bit_digit, next_bit}

-- the fields from place i of n on
abbrev pub fields_from : List ℕ → ℕ → ℕ → List (List ℕ)
fields_from text n i = cond (ltb i n) (fields (drop (2 * i) text)) []

module _ (text : List ℕ) (n : ℕ) (are : AreBits text n) (exact : length text + 1 ≡ 2 * n) where
  pub next_field : (i : ℕ) → i < n → fields_from text n i ≡ (slice_index text (2 * i) ∷ []) ∷ fields_from text n (i + 1)
  unfolding fields
  next_field i less = next_bit text n are exact i less

  pub next_reads : (i : ℕ) → i < n → reads_all bit (fields_from text n i) ≡ reads_all bit (fields_from text n (i + 1))
  next_reads i less = rw (next_field i less, bit_digit (slice_index text (2 * i)) (are.digits i less)) refl

  pub next_value : (i : ℕ) → i < n → filter_map bit (fields_from text n i) ≡ (slice_index text (2 * i) == 49) ∷ filter_map bit (fields_from text n (i + 1))
  next_value i less = rw (next_field i less, bit_digit (slice_index text (2 * i)) (are.digits i less)) refl

  -- one bit more is written
  pub written : (slot : List Bool) (i : ℕ) → length slot ≡ n → i < n → filter_map bit (fields text) ≡ take i slot ++ filter_map bit (fields_from text n i)
      → filter_map bit (fields text) ≡ take (i + 1) (set slot i (slice_index text (2 * i) == 49)) ++ filter_map bit (fields_from text n (i + 1))
  written slot i len less before =
      let bit_here : Bool = slice_index text (2 * i) == 49 in
      let stored : take (i + 1) (set slot i bit_here) ≡ take i slot ++ bit_here ∷ [] = take_more_set slot i bit_here (omega arith) in
      before ∙ ap (λ l. take i slot ++ l) (next_value i less) ∙ rw (stored, append_assoc) refl

  -- neither a digit nor a comma is a slash
  pub no_slash : (k : ℕ) → k < length text → (slice_index text k == 47) ≡ true → ⊥
  no_slash k inside slash = even_or_odd (k % 2) refl
    where
      is : slice_index text k ≡ 47
      is = eqb-true (slice_index text k) 47 slash

      even_or_odd : (r : ℕ) → k % 2 ≡ r → ⊥
      even_or_odd zero e =
          let i : ℕ = k / 2 in
          let at : k ≡ 2 * i = omega arith in
          ⊎_elim (λ d. absurd (omega (arith, d, is, ap (slice_index text) at))) (λ d. absurd (omega (arith, d, is, ap (slice_index text) at))) (are.digits i (omega arith))
      even_or_odd (suc r) e =
          let i : ℕ = k / 2 in
          let at : k ≡ 2 * i + 1 = omega arith in
          omega (arith, are.commas i (omega arith), is, ap (slice_index text) at)
