-- A span with one sample more.
use Rattle.std.proofs.Common.{◌≡◌, ℕ, ◌+◌, ◌<◌, true, false, cond, ℤ, ◌≤ℤ◌, List, [], ◌∷◌, ◌++◌, length, take, get_or, Option, Some, None, ◌⊎◌, inl, inr, refl, sym, ap, ◌∙◌, subst, arith, length-append}
use Rattle.std.specs.Prelude.{unwrap_or, int_lt}
use Rattle.std.specs.Int.{int_min, int_max}
use Rattle.std.specs.List.{Contains, cons_option}
use Rattle.std.proofs.lemmas.Int.{ints, clamps}
use Rattle.std.proofs.lemmas.List.{take_more, get_or_at, get_or_append_left, append-nil}
use Rattle.std.proofs.lemmas.List.Elements.{All-push, All-weaker, filter_map-append}
use Rattle.comtrade_format.specs.Parts.{RowParts}
use Rattle.examples.specs.declared.peaks.span.Span.{Span}
use Rattle.examples.specs.Samples.{sample, samples, IsSpan, Spans}

min_is : (a b : ℤ) → (int_min a b ≡ a) ⊎ (int_min a b ≡ b)
min_is a b = elim (int_lt b a) as (λ v. (cond v b a ≡ a) ⊎ (cond v b a ≡ b)) [ true ↦ inr refl | false ↦ inl refl ]

max_is : (a b : ℤ) → (int_max a b ≡ a) ⊎ (int_max a b ≡ b)
max_is a b = elim (int_lt b a) as (λ v. (cond v a b ≡ a) ⊎ (cond v a b ≡ b)) [ true ↦ inl refl | false ↦ inr refl ]

-- what stands in a list stands in a longer one, and so does the last element
still : (xs : List ℤ) (x y : ℤ) → Contains xs y → Contains (xs ++ x ∷ []) y
still xs x y h = (h.0, omega (arith, length-append xs (x ∷ []), h.1), get_or_append_left xs (x ∷ []) y h.0 h.1 ∙ h.2)

last : (xs : List ℤ) (x y : ℤ) → y ≡ x → Contains (xs ++ x ∷ []) y
last xs x y e = (length xs, omega (arith, length-append xs (x ∷ [])), get_or_at xs x [] y (length xs) refl ∙ sym e)

pub next_span : (xs : List ℤ) (x : ℤ) (s t : Span) → IsSpan xs s → t.least ≡ int_min s.least x → t.greatest ≡ int_max s.greatest x → IsSpan (xs ++ x ∷ []) t
next_span xs x s t h least greatest = record {
  within = All-push (λ y. (t.least ≤ℤ y) × (y ≤ℤ t.greatest)) xs x
      (All-weaker (λ y. (s.least ≤ℤ y) × (y ≤ℤ s.greatest)) (λ y. (t.least ≤ℤ y) × (y ≤ℤ t.greatest)) (λ y b. (omega (arith, ints, clamps), omega (arith, ints, clamps))) xs h.within)
      (omega (arith, ints, clamps), omega (arith, ints, clamps));
  least = elim (min_is s.least x) [ inl e ↦ subst (Contains (xs ++ x ∷ [])) (sym (least ∙ e)) (still xs x s.least h.least) | inr e ↦ last xs x t.least (least ∙ e) ];
  greatest = elim (max_is s.greatest x) [ inl e ↦ subst (Contains (xs ++ x ∷ [])) (sym (greatest ∙ e)) (still xs x s.greatest h.greatest) | inr e ↦ last xs x t.greatest (greatest ∙ e) ];
}

-- a span of one sample, to which the same sample is added
pub first_span : (x : ℤ) (s t : Span) → s ≡ record { least = x; greatest = x } → t.least ≡ int_min s.least x → t.greatest ≡ int_max s.greatest x → IsSpan (x ∷ []) t
first_span x s t e least greatest =
    let low : s.least ≡ x = ap (λ (p : Span). p.least) e in
    let high : s.greatest ≡ x = ap (λ (p : Span). p.greatest) e in
    let bottom : t.least ≡ x = omega (arith, ints, clamps) in
    let top : t.greatest ≡ x = omega (arith, ints, clamps) in
    record {
      within = All-push (λ y. (t.least ≤ℤ y) × (y ≤ℤ t.greatest)) [] x (λ k d lt. absurd (omega arith)) (omega (arith, ints), omega (arith, ints));
      least = last [] x t.least bottom;
      greatest = last [] x t.greatest top;
    }

pub spans_more : (xs : List ℤ) (x : ℤ) (o : Option Span) (s t : Span) → Spans xs o → s ≡ unwrap_or o (record { least = x; greatest = x }) → t.least ≡ int_min s.least x → t.greatest ≡ int_max s.greatest x → IsSpan (xs ++ x ∷ []) t
spans_more xs x None s t h e least greatest = subst (λ (ys : List ℤ). IsSpan (ys ++ x ∷ []) t) (sym h) (first_span x s t e least greatest)
spans_more xs x (Some o) s t h e least greatest = next_span xs x s t (subst (IsSpan xs) (sym e) h) least greatest

-- one row more
grown : (channel : ℕ) (rows : List RowParts) (i : ℕ) (row : RowParts) → i < length rows → row ≡ get_or rows i row → samples channel (take (i + 1) rows) ≡ samples channel (take i rows) ++ samples channel (row ∷ [])
grown channel rows i row lt is =
    ap (samples channel) (take_more rows i row lt ∙ ap (λ (r : RowParts). take i rows ++ r ∷ []) (sym is)) ∙ filter_map-append (sample channel) (take i rows) (row ∷ [])

pub some_more : (channel : ℕ) (rows : List RowParts) (i : ℕ) (row : RowParts) (x : ℤ) → i < length rows → row ≡ get_or rows i row → sample channel row ≡ Some x → samples channel (take (i + 1) rows) ≡ samples channel (take i rows) ++ x ∷ []
some_more channel rows i row x lt is e = grown channel rows i row lt is ∙ ap (λ (o : Option ℤ). samples channel (take i rows) ++ cons_option o []) e

pub none_more : (channel : ℕ) (rows : List RowParts) (i : ℕ) (row : RowParts) → i < length rows → row ≡ get_or rows i row → sample channel row ≡ None → samples channel (take (i + 1) rows) ≡ samples channel (take i rows)
none_more channel rows i row lt is e = grown channel rows i row lt is ∙ ap (λ (o : Option ℤ). samples channel (take i rows) ++ cons_option o []) e ∙ append-nil (samples channel (take i rows))
