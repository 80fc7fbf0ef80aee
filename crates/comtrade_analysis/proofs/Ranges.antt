-- A range with one number more.
use Rattle.std.proofs.Common.{◌≡◌, ℕ, ◌+◌, List, [], ◌∷◌, ◌++◌, Option, Some, None, refl, sym, ap, ◌∙◌}
use Rattle.std.specs.List.{filter_map, flat_map, range_with_len, cons_option}
use Rattle.std.proofs.lemmas.List.{map-id, append-nil}
use Rattle.std.proofs.lemmas.List.Elements.{filter_map-append}
use Rattle.std.proofs.lemmas.List.Concat.{flat_map-append}
use Rattle.std.proofs.lemmas.List.FromFn.{map-range_with_len_more}

range_more : (a n : ℕ) → range_with_len a (n + 1) ≡ range_with_len a n ++ (a + n) ∷ []
range_more a n =
    sym (map-id (range_with_len a (n + 1))) ∙ map-range_with_len_more (λ (x : ℕ). x) a n (a + n) refl
    ∙ ap (λ (xs : List ℕ). xs ++ (a + n) ∷ []) (map-id (range_with_len a n))

module _ {X : Type 0} where
  pub filter_more : (f : ℕ → Option X) (a n j : ℕ) → a + n ≡ j → filter_map f (range_with_len a (n + 1)) ≡ filter_map f (range_with_len a n) ++ cons_option (f j) []
  filter_more f a n j at =
      ap (filter_map f) (range_more a n) ∙ filter_map-append f (range_with_len a n) ((a + n) ∷ [])
      ∙ ap (λ (k : ℕ). filter_map f (range_with_len a n) ++ cons_option (f k) []) at

  -- where f gives something of the new number
  pub some_more : (f : ℕ → Option X) (a n j : ℕ) (x : X) → a + n ≡ j → f j ≡ Some x → filter_map f (range_with_len a (n + 1)) ≡ filter_map f (range_with_len a n) ++ x ∷ []
  some_more f a n j x at is = filter_more f a n j at ∙ ap (λ (o : Option X). filter_map f (range_with_len a n) ++ cons_option o []) is

  -- where it gives nothing
  pub none_more : (f : ℕ → Option X) (a n j : ℕ) → a + n ≡ j → f j ≡ None → filter_map f (range_with_len a (n + 1)) ≡ filter_map f (range_with_len a n)
  none_more f a n j at is =
      filter_more f a n j at ∙ ap (λ (o : Option X). filter_map f (range_with_len a n) ++ cons_option o []) is ∙ append-nil (filter_map f (range_with_len a n))

  -- where it gives a list
  pub list_more : (f : ℕ → List X) (a n j : ℕ) → a + n ≡ j → flat_map f (range_with_len a (n + 1)) ≡ flat_map f (range_with_len a n) ++ f j
  list_more f a n j at =
      ap (flat_map f) (range_more a n) ∙ flat_map-append f (range_with_len a n) ((a + n) ∷ [])
      ∙ ap (λ (k : ℕ). flat_map f (range_with_len a n) ++ (f k ++ [])) at
      ∙ ap (λ (xs : List X). flat_map f (range_with_len a n) ++ xs) (append-nil (f j))
