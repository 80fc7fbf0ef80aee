-- Extremes with one row more.
use Rattle.std.proofs.Common.{◌≡◌, ℕ, ◌+◌, ◌<◌, true, false, cond, ℤ, ◌≤ℤ◌, ◌<ℤ◌, List, Option, Some, None, sym, ap, ◌∙◌, subst, arith, below_more}
use Rattle.std.specs.Prelude.{int_lt}
use Rattle.std.proofs.lemmas.Int.{ints, by_lt_z}
use Rattle.comtrade_format.specs.Parts.{RowParts}
use Rattle.comtrade_analysis.specs.Readings.{sample_at}
use Rattle.comtrade_analysis.specs.Extremes.{EachSample, IsLeast, IsGreatest, AreExtremes}
use Rattle.comtrade_analysis.specs.declared.extremes.Extreme.{Extreme}
use Rattle.comtrade_analysis.specs.declared.extremes.Extremes.{Extremes}

int_lt-true : (a b : ℤ) → a <ℤ b → int_lt a b ≡ true
int_lt-true a b h = grind (arith, ints)

int_lt-false : (a b : ℤ) → b ≤ℤ a → int_lt a b ≡ false
int_lt-false a b h = grind (arith, ints)

module _ (rows : List RowParts) (channel n : ℕ) where
  -- a row with a sample, after the others
  with_sample : (P : ℤ → Type 0) (y : ℤ) → EachSample rows channel n P → sample_at rows channel n ≡ Some y → P y → EachSample rows channel (n + 1) P
  with_sample P y before is here =
      below_more (λ (k : ℕ). (x : ℤ) → sample_at rows channel k ≡ Some x → P x) n before (λ x e. let same : y ≡ x = cc in subst P same here)

  -- a row without a sample, after the others
  without_sample : (P : ℤ → Type 0) → EachSample rows channel n P → sample_at rows channel n ≡ None → EachSample rows channel (n + 1) P
  without_sample P before is =
      below_more (λ (k : ℕ). (x : ℤ) → sample_at rows channel k ≡ Some x → P x) n before (λ x e. let no : ⊥ = cc in absurd no)

  -- ---- the least sample

  first_least : (x : ℤ) → EachSample rows channel n (λ y. ⊥) → sample_at rows channel n ≡ Some x → IsLeast rows channel (n + 1) (record { sample = x; row = n })
  first_least x none is = record {
    within = omega arith;
    taken = is;
    least = with_sample (λ y. x ≤ℤ y) x (λ k lt y e. absurd (none k lt y e)) is (omega (arith, ints));
    first = λ k lt y e. absurd (none k lt y e);
  }

  next_least : (e : Extreme) (x : ℤ) → IsLeast rows channel n e → sample_at rows channel n ≡ Some x → x <ℤ e.sample
      → IsLeast rows channel (n + 1) (record { sample = x; row = n })
  next_least e x h is lt = record {
    within = omega arith;
    taken = is;
    least = with_sample (λ y. x ≤ℤ y) x (λ k below y at. let le : e.sample ≤ℤ y = h.least k below y at in omega (arith, ints)) is (omega (arith, ints));
    first = λ k below y at. let le : e.sample ≤ℤ y = h.least k below y at in omega (arith, ints);
  }

  kept_least : (e : Extreme) (x : ℤ) → IsLeast rows channel n e → sample_at rows channel n ≡ Some x → e.sample ≤ℤ x → IsLeast rows channel (n + 1) e
  kept_least e x h is le = record {
    within = let lt : e.row < n = h.within in omega arith;
    taken = h.taken;
    least = with_sample (λ y. e.sample ≤ℤ y) x h.least is le;
    first = h.first;
  }

  least_more : (e t : Extreme) (x : ℤ) → IsLeast rows channel n e → sample_at rows channel n ≡ Some x
      → t ≡ cond (int_lt x e.sample) (record { sample = x; row = n }) e → IsLeast rows channel (n + 1) t
  least_more e t x h is same =
      by_lt_z x e.sample
      (λ lt. subst (IsLeast rows channel (n + 1)) (sym (same ∙ ap (λ v. cond v (record { sample = x; row = n }) e) (int_lt-true x e.sample lt))) (next_least e x h is lt))
      (λ le. subst (IsLeast rows channel (n + 1)) (sym (same ∙ ap (λ v. cond v (record { sample = x; row = n }) e) (int_lt-false x e.sample le))) (kept_least e x h is le))

  -- ---- the greatest sample

  first_greatest : (x : ℤ) → EachSample rows channel n (λ y. ⊥) → sample_at rows channel n ≡ Some x
      → IsGreatest rows channel (n + 1) (record { sample = x; row = n })
  first_greatest x none is = record {
    within = omega arith;
    taken = is;
    greatest = with_sample (λ y. y ≤ℤ x) x (λ k lt y e. absurd (none k lt y e)) is (omega (arith, ints));
    first = λ k lt y e. absurd (none k lt y e);
  }

  next_greatest : (e : Extreme) (x : ℤ) → IsGreatest rows channel n e → sample_at rows channel n ≡ Some x → e.sample <ℤ x
      → IsGreatest rows channel (n + 1) (record { sample = x; row = n })
  next_greatest e x h is lt = record {
    within = omega arith;
    taken = is;
    greatest = with_sample (λ y. y ≤ℤ x) x (λ k below y at. let le : y ≤ℤ e.sample = h.greatest k below y at in omega (arith, ints)) is (omega (arith, ints));
    first = λ k below y at. let le : y ≤ℤ e.sample = h.greatest k below y at in omega (arith, ints);
  }

  kept_greatest : (e : Extreme) (x : ℤ) → IsGreatest rows channel n e → sample_at rows channel n ≡ Some x → x ≤ℤ e.sample → IsGreatest rows channel (n + 1) e
  kept_greatest e x h is le = record {
    within = let lt : e.row < n = h.within in omega arith;
    taken = h.taken;
    greatest = with_sample (λ y. y ≤ℤ e.sample) x h.greatest is le;
    first = h.first;
  }

  greatest_more : (e t : Extreme) (x : ℤ) → IsGreatest rows channel n e → sample_at rows channel n ≡ Some x
      → t ≡ cond (int_lt e.sample x) (record { sample = x; row = n }) e → IsGreatest rows channel (n + 1) t
  greatest_more e t x h is same =
      by_lt_z e.sample x
      (λ lt. subst (IsGreatest rows channel (n + 1)) (sym (same ∙ ap (λ v. cond v (record { sample = x; row = n }) e) (int_lt-true e.sample x lt))) (next_greatest e x h is lt))
      (λ le. subst (IsGreatest rows channel (n + 1)) (sym (same ∙ ap (λ v. cond v (record { sample = x; row = n }) e) (int_lt-false e.sample x le))) (kept_greatest e x h is le))

  -- ---- both

  pub first_extremes : (o : Option Extremes) (x : ℤ) → o ≡ None → AreExtremes rows channel n o → sample_at rows channel n ≡ Some x
      → AreExtremes rows channel (n + 1) (Some (record { least = record { sample = x; row = n }; greatest = record { sample = x; row = n } }))
  first_extremes None x none h is = (first_least x h is, first_greatest x h is)
  first_extremes (Some e) x none h is = let no : ⊥ = cc in absurd no

  pub next_extremes : (o : Option Extremes) (e t : Extremes) (x : ℤ) → o ≡ Some e → AreExtremes rows channel n o → sample_at rows channel n ≡ Some x
      → t.least ≡ cond (int_lt x e.least.sample) (record { sample = x; row = n }) e.least
      → t.greatest ≡ cond (int_lt e.greatest.sample x) (record { sample = x; row = n }) e.greatest
      → AreExtremes rows channel (n + 1) (Some t)
  next_extremes None e t x some h is least greatest = let no : ⊥ = cc in absurd no
  next_extremes (Some f) e t x some h is least greatest =
      let both : AreExtremes rows channel n (Some e) = subst (AreExtremes rows channel n) some h in
      (least_more e.least t.least x both.0 is least, greatest_more e.greatest t.greatest x both.1 is greatest)

  pub same_extremes : (o : Option Extremes) → AreExtremes rows channel n o → sample_at rows channel n ≡ None → AreExtremes rows channel (n + 1) o
  same_extremes None h is = without_sample (λ y. ⊥) h is
  same_extremes (Some e) h is = (
    record {
      within = let lt : e.least.row < n = h.0.within in omega arith;
      taken = h.0.taken;
      least = without_sample (λ y. e.least.sample ≤ℤ y) h.0.least is;
      first = h.0.first;
    },
    record {
      within = let lt : e.greatest.row < n = h.1.within in omega arith;
      taken = h.1.taken;
      greatest = without_sample (λ y. y ≤ℤ e.greatest.sample) h.1.greatest is;
      first = h.1.first;
    },
  )
