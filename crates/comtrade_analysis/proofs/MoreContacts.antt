-- The events of a contact with one row more.
use Rattle.std.proofs.Common.{◌≡◌, ℕ, suc, ◌+◌, ◌-◌, ◌<◌, ◌≤◌, Bool, true, false, not, List, [], ◌∷◌, ◌++◌, length, take, slice_get, option_map, option_and_then, Option, Some, None, refl, sym, ap, ◌∙◌, arith}
use Rattle.std.specs.Option.{option_to_list}
use Rattle.std.specs.List.{cons_option, filter_map, range_with_len}
use Rattle.std.proofs.lemmas.List.{length_push, length-append, length-take, take_all, take-append-le, append-nil}
use Rattle.std.specs.Cmp.Lexicographic.{pointwise}
use Rattle.std.proofs.Math.Bool.{beq}
use Rattle.std.proofs.lemmas.List.FromFn.{length-range_with_len}
use Rattle.comtrade_format.specs.Parts.{RowParts}
use Rattle.comtrade_analysis.specs.Events.{event_at, bit_at, change}
use Rattle.comtrade_analysis.specs.Contacts.{contact_events}
use Rattle.comtrade_analysis.specs.declared.events.Event.{Event}
use Rattle.comtrade_analysis.proofs.Ranges.{filter_more}

one_or_none : (o : Option Event) → cons_option o [] ≡ option_to_list o
one_or_none None = refl
one_or_none (Some e) = refl

module _ (rows : List RowParts) (contact n : ℕ) (some : 0 < n) where
  pub events_more : contact_events rows contact (n + 1) ≡ contact_events rows contact n ++ option_to_list (event_at rows n contact)
  events_more =
      let count : n + 1 - 1 ≡ n - 1 + 1 = omega arith in
      let at : 1 + (n - 1) ≡ n = omega arith in
      ap (λ (k : ℕ). filter_map (λ (row : ℕ). event_at rows row contact) (range_with_len 1 k)) count
      ∙ filter_more (λ (row : ℕ). event_at rows row contact) 1 (n - 1) n at
      ∙ ap (λ (xs : List Event). contact_events rows contact n ++ xs) (one_or_none (event_at rows n contact))

  pub count_more : length (contact_events rows contact (n + 1)) ≡ length (contact_events rows contact n) + length (option_to_list (event_at rows n contact))
  count_more = ap (λ (xs : List Event). length xs) events_more ∙ length-append (contact_events rows contact n) (option_to_list (event_at rows n contact))

  pub events_same : event_at rows n contact ≡ None → contact_events rows contact (n + 1) ≡ contact_events rows contact n
  events_same is =
      events_more ∙ ap (λ (o : Option Event). contact_events rows contact n ++ option_to_list o) is ∙ append-nil (contact_events rows contact n)

-- with one item more, where there is room, and where not
pub first_more : (most : ℕ) (xs : List Event) (e : Event) → length (take most xs) < most → take most (xs ++ e ∷ []) ≡ take most xs ++ e ∷ []
first_more most xs e room =
    let short : length xs < most = omega (arith, length-take most xs) in
    let more : length (xs ++ e ∷ []) ≤ most = omega (arith, length_push xs e) in
    take_all most (xs ++ e ∷ []) more ∙ ap (λ (ys : List Event). ys ++ e ∷ []) (sym (take_all most xs (omega arith)))

pub first_full : (most : ℕ) (xs ys : List Event) → most ≤ length (take most xs) → take most (xs ++ ys) ≡ take most xs
first_full most xs ys full = let long : most ≤ length xs = omega (arith, length-take most xs) in take-append-le most xs ys long

fewer : (f : ℕ → Option Event) (xs : List ℕ) → length (filter_map f xs) ≤ length xs
fewer f [] = omega arith
fewer f (x ∷ xs) = kept (f x) (filter_map f xs) (length xs) (fewer f xs)
  where
    kept : (o : Option Event) (ys : List Event) (n : ℕ) → length ys ≤ n → length (cons_option o ys) ≤ suc n
    kept None ys n h = omega arith
    kept (Some e) ys n h = omega arith

-- a contact has at most one event in a row
pub few_events : (rows : List RowParts) (contact n : ℕ) → length (contact_events rows contact n) ≤ n
few_events rows contact n =
    let h = fewer (λ (row : ℕ). event_at rows row contact) (range_with_len 1 (n - 1)) in omega (arith, h, length-range_with_len 1 (n - 1))

-- a row with the bits of the row before has none
same_state : (o p : Option Bool) → o ≡ p → change o p ≡ None
same_state (Some true) (Some true) e = refl
same_state (Some false) (Some false) e = refl
same_state (Some true) (Some false) e = let no : ⊥ = cc in absurd no
same_state (Some false) (Some true) e = let no : ⊥ = cc in absurd no
same_state None p e = refl
same_state (Some true) None e = refl
same_state (Some false) None e = refl

pub same_bits : (rows : List RowParts) (row : ℕ) (before now : RowParts) → slice_get rows (row - 1) ≡ Some before → slice_get rows row ≡ Some now
    → now.bits ≡ before.bits → (contact : ℕ) → event_at rows row contact ≡ None
same_bits rows row before now at is same contact =
    let old : bit_at rows contact (row - 1) ≡ slice_get before.bits contact = ap (option_and_then (λ (r : RowParts). slice_get r.bits contact)) at in
    let new : bit_at rows contact row ≡ slice_get now.bits contact = ap (option_and_then (λ (r : RowParts). slice_get r.bits contact)) is in
    let both : bit_at rows contact (row - 1) ≡ bit_at rows contact row = old ∙ ap (λ (bits : List Bool). slice_get bits contact) (sym same) ∙ sym new in
    ap (option_map (λ (closed : Bool). record { row = row; channel = contact; closed = closed })) (same_state (bit_at rows contact (row - 1)) (bit_at rows contact row) both)

same_items : (xs ys : List Bool) → pointwise beq xs ys ≡ true → xs ≡ ys
same_items [] [] e = refl
same_items (true ∷ xs) (true ∷ ys) e = ap (λ (l : List Bool). true ∷ l) (same_items xs ys e)
same_items (false ∷ xs) (false ∷ ys) e = ap (λ (l : List Bool). false ∷ l) (same_items xs ys e)
same_items (true ∷ xs) (false ∷ ys) e = let no : ⊥ = cc in absurd no
same_items (false ∷ xs) (true ∷ ys) e = let no : ⊥ = cc in absurd no
same_items [] (y ∷ ys) e = let no : ⊥ = cc in absurd no
same_items (x ∷ xs) [] e = let no : ⊥ = cc in absurd no

not_false : (b : Bool) → not b ≡ false → b ≡ true
not_false true e = refl
not_false false e = let no : ⊥ = cc in absurd no

-- what a test of two lists of bits has told
pub found_same : (xs ys : List Bool) (differ : Bool) → differ ≡ not (pointwise beq xs ys) → differ ≡ false → xs ≡ ys
found_same xs ys differ is none = same_items xs ys (not_false (pointwise beq xs ys) (sym is ∙ none))
