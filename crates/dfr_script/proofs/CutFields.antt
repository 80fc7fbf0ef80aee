-- The fields of a text, cut off one by one, and the parts of a list, read one by one.
use Rattle.std.proofs.Common.{◌≡◌, ℕ, ◌+◌, ◌<◌, ◌≤◌, Bool, true, false, cond, ltb, List, [], ◌∷◌, ◌++◌, length, map, take, drop, get_or, Option, Some, None, Bor, arith, refl, ap, ◌∙◌, suc}
use Rattle.std.specs.Prelude.{position}
use Rattle.std.specs.List.{position_or_len, slice_split, list_all, filter_map}
use borrow.Author.Tests.{ltb-false, ltb-true}
use Rattle.std.proofs.lemmas.List.{get_or-map, take_more, length-map}
use Rattle.std.proofs.lemmas.List.Folds.{list_all_at, list_all_more}
use Rattle.std.proofs.lemmas.List.Elements.{filter_map-append}
use Rattle.std.proofs.lemmas.List.Splits.{slice_split_first}
use Rattle.comtrade_values.specs.Spelling.{trimmed}
use Rattle.comtrade_values.specs.Lines.{texts}
use Rattle.comtrade_values.proofs.Cuts.{place_none, before_some, after_some}
use Rattle.dfr_script.specs.ScanLines.{is_comma, fields}

-- without an element that passes there is one part
split_none : (p : ℕ → Bool) (xs : List ℕ) → length xs ≤ position_or_len p xs → slice_split p xs ≡ xs ∷ []
split_none p [] h = refl
split_none p (x ∷ xs) h = with_test (λ k. split_none p xs k) (p x) refl
  where
    with_test : (length xs ≤ position_or_len p xs → slice_split p xs ≡ xs ∷ []) → (b : Bool) → p x ≡ b → slice_split p (x ∷ xs) ≡ (x ∷ xs) ∷ []
    with_test rest true e = let k : suc (length xs) ≤ 0 = rw e at h in absurd (omega arith)
    with_test rest false e =
        let k : suc (length xs) ≤ 1 + position_or_len p xs = rw e at h in
        rw (e, rest (omega arith)) refl

some_is_within : (i n at : ℕ) (b : Bool) → ltb i n ≡ b → cond b (Some i) None ≡ Some at → i < n
some_is_within i n at true t e = omega (arith, ltb-true)
some_is_within i n at false t e = absurd cc

pub fields_none : (text : List ℕ) → position is_comma text ≡ None → fields text ≡ trimmed text ∷ []
unfolding fields
fields_none text e =
    ap (map trimmed) (split_none is_comma text (place_none (position_or_len is_comma text) (length text) _ refl e))

pub fields_some : (text : List ℕ) (at : ℕ) → position is_comma text ≡ Some at → fields text ≡ trimmed (take at text) ∷ fields (drop (at + 1) text)
unfolding fields
fields_some text at e =
    ap (map trimmed) (slice_split_first is_comma text 0 (some_is_within (position_or_len is_comma text) (length text) at _ refl e))
    ∙ rw (before_some is_comma text at e, after_some is_comma text at e) refl

-- how much is left to cut
abbrev pub left_length : Option (List ℕ) → ℕ
left_length None = 0
left_length (Some text) = length text + 1

-- a part at its place in the list
pub text_at : (xs : List (Bor (List ℕ))) (i : ℕ) (d : Bor (List ℕ)) → i < length xs → get_or (texts xs) i d.now ≡ (get_or xs i d).now
text_at xs i d h = get_or-map (λ x. x.now) xs i d d.now h

pub within : (xs : List (Bor (List ℕ))) (i : ℕ) → i < length xs → i < length (texts xs)
within xs i h = rw (length-map xs (λ x. x.now)) h

pub part_fails : (p : List ℕ → Bool) (xs : List (Bor (List ℕ))) (i : ℕ) (d : Bor (List ℕ)) → i < length xs → p (get_or xs i d).now ≡ false → list_all p (texts xs) ≡ false
part_fails p xs i d h e = list_all_at p (texts xs) i d.now (within xs i h) (ap p (text_at xs i d h) ∙ e)

pub part_passes : (p : List ℕ → Bool) (xs : List (Bor (List ℕ))) (i : ℕ) (d : Bor (List ℕ)) → i < length xs → p (get_or xs i d).now ≡ true → list_all p (take i (texts xs)) ≡ true → list_all p (take (i + 1) (texts xs)) ≡ true
part_passes p xs i d h e before = rw (list_all_more p (texts xs) i d.now (within xs i h), before, text_at xs i d h) e

pub part_gives : {X : Type 0} (read : List ℕ → Option X) (xs : List (Bor (List ℕ))) (i : ℕ) (d : Bor (List ℕ)) (x : X) → i < length xs → read (get_or xs i d).now ≡ Some x → filter_map read (take (i + 1) (texts xs)) ≡ filter_map read (take i (texts xs)) ++ x ∷ []
part_gives read xs i d x h e =
    ap (filter_map read) (take_more (texts xs) i d.now (within xs i h))
    ∙ filter_map-append read (take i (texts xs)) (get_or (texts xs) i d.now ∷ [])
    ∙ rw (text_at xs i d h, e) refl

pub ruleset comma_fields = (fields_none, fields_some)
