-- The value farthest from 0, among one sample more.
use Rattle.std.proofs.Common.{◌≡◌, ℕ, ◌+◌, ℤ, pos, List, slice_get, Some, T, true, false, sym, ap, ◌∙◌, subst, inl, inr, arith}
use Rattle.std.specs.Float.{Float, float_with_sign, ◌<ᶠ◌}
use lib.Ieee.{lt}
use Rattle.std.proofs.lemmas.Bool.{cases_lt}
use Rattle.std.proofs.lemmas.Float.{lt_irrefl, lt_trans, lt_of_lt_of_le, T_from_true}
use Rattle.std.proofs.lemmas.Option.{get_or_from_slice_get}
use Rattle.comtrade_format.specs.Floats.{scaled}
use Rattle.comtrade_format.specs.declared.values.scale.Scale.{Scale}
use Rattle.comtrade_analysis.specs.Peaks.{size_of, IsPeakWithin}
use Rattle.comtrade_analysis.specs.declared.samples.Peak.{Peak}

-- the n-th sample is y, so another fact of it holds for the n-th sample
at_most : (P : ℤ → Type 0) (xs : List ℤ) (n k : ℕ) (y z : ℤ) → slice_get xs n ≡ Some y → k ≡ n → slice_get xs k ≡ Some z → P y → P z
at_most P xs n k y z at same is p =
    let here : slice_get xs n ≡ Some z = subst (λ (j : ℕ). slice_get xs j ≡ Some z) same is in
    subst P (sym (get_or_from_slice_get xs n y (pos 0) at) ∙ get_or_from_slice_get xs n z (pos 0) here) p

-- what a test of two floats says of those that they are
pub is_less : (a b x y : Float) → lt a b ≡ true → a ≡ x → b ≡ y → x <ᶠ y
is_less a b x y test left right =
    subst (λ (f : Float). f <ᶠ y) left (subst (λ (f : Float). a <ᶠ f) right (T_from_true (lt a b) test))

pub is_no_less : (a b x y : Float) → lt a b ≡ false → a ≡ x → b ≡ y → ¬ (x <ᶠ y)
is_no_less a b x y test left right h =
    let same : a <ᶠ b = subst (λ (f : Float). f <ᶠ b) (sym left) (subst (λ (f : Float). x <ᶠ f) (sym right) h) in
    subst T test same

-- the first of some samples
pub first_peak : (s : Scale) (xs : List ℤ) (p : Peak) (y : ℤ) → slice_get xs 0 ≡ Some y → p.index ≡ 0 → p.value ≡ scaled s y → IsPeakWithin s xs 0 p
first_peak s xs p y at zero value = record {
  x = y;
  at = subst (λ (j : ℕ). slice_get xs j ≡ Some y) (sym zero) at;
  value = value;
  farthest = λ k z below is. absurd (let no : ⊥ = omega (arith, below) in no);
  first = λ k z below is. absurd (let no : ⊥ = omega (arith, below, zero) in no);
}

-- no farther than the peak
pub same_peak : (s : Scale) (xs : List ℤ) (n : ℕ) (p : Peak) (y : ℤ) → IsPeakWithin s xs n p → slice_get xs n ≡ Some y
    → ¬ (float_with_sign false p.value <ᶠ size_of s y) → IsPeakWithin s xs (n + 1) p
same_peak s xs n p y old at less =
    let size : float_with_sign false p.value ≡ size_of s old.x = ap (float_with_sign false) old.value in
    let no : ¬ (size_of s old.x <ᶠ size_of s y) = subst (λ (f : Float). ¬ (f <ᶠ size_of s y)) size less in
    record {
      x = old.x;
      at = old.at;
      value = old.value;
      farthest = λ k z below is. elim (cases_lt k n) [
        | inl lt ↦ old.farthest k z lt is
        | inr ge ↦ at_most (λ (w : ℤ). ¬ (size_of s old.x <ᶠ size_of s w)) xs n k y z at (omega (arith, below, ge)) is no
      ];
      first = old.first;
    }

-- farther than the peak
pub new_peak : (s : Scale) (xs : List ℤ) (n : ℕ) (p : Peak) (y : ℤ) → IsPeakWithin s xs n p → slice_get xs n ≡ Some y
    → float_with_sign false p.value <ᶠ size_of s y → (q : Peak) → q.index ≡ n → q.value ≡ scaled s y → IsPeakWithin s xs (n + 1) q
new_peak s xs n p y old at more q here value =
    let size : float_with_sign false p.value ≡ size_of s old.x = ap (float_with_sign false) old.value in
    let farther : size_of s old.x <ᶠ size_of s y = subst (λ (f : Float). f <ᶠ size_of s y) size more in
    record {
      x = y;
      at = subst (λ (j : ℕ). slice_get xs j ≡ Some y) (sym here) at;
      value = value;
      farthest = λ k z below is. elim (cases_lt k n) [
        | inl lt ↦ (λ h. old.farthest k z lt is (lt_trans (size_of s old.x) (size_of s y) (size_of s z) farther h))
        | inr ge ↦ at_most (λ (w : ℤ). ¬ (size_of s y <ᶠ size_of s w)) xs n k y z at (omega (arith, below, ge)) is (lt_irrefl (size_of s y))
      ];
      first = λ k z below is h. old.farthest k z (omega (arith, below, here)) is (lt_of_lt_of_le (size_of s old.x) (size_of s y) (size_of s z) farther h);
    }
