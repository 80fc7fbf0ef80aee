-- The sum of the squares of values with one sample more.
use Rattle.std.proofs.Common.{◌≡◌, ℕ, ◌+◌, ◌^◌, ◌<◌, ◌≤◌, ℤ, List, [], ◌∷◌, ◌++◌, length, Option, Some, None, sym, ap, ◌∙◌, subst, arith}
use Rattle.std.specs.List.{All}
use Rattle.std.proofs.Math.Seq.{get_or-append_seam}
use Rattle.std.proofs.lemmas.List.{length_push, get_or_append_left}
use Rattle.std.proofs.lemmas.List.Sums.{sum_by_push}
use Rattle.comtrade_values.specs.Arithmetic.{IsShort}
use Rattle.comtrade_analysis.specs.Wide.{number}
use Rattle.comtrade_analysis.specs.MeanSquares.{square_in, squares, HasSquares, AreSquares, IsAdded}
use Rattle.comtrade_analysis.specs.declared.factors.Factors.{Factors}
use Rattle.comtrade_analysis.specs.declared.wide.Wide.{Wide}

module _ (P : ℤ → Type 0) (xs : List ℤ) (x : ℤ) (all : All P (xs ++ x ∷ [])) where
  all_front : All P xs
  all_front = λ k d lt. subst P (get_or_append_left xs (x ∷ []) d k lt) (all k d (let n : length (xs ++ x ∷ []) ≡ length xs + 1 = length_push xs x in omega arith))

  all_last : P x
  all_last = subst P (get_or-append_seam xs x [] x) (all (length xs) x (let n : length (xs ++ x ∷ []) ≡ length xs + 1 = length_push xs x in omega arith))

module _ (f : Factors) (xs : List ℤ) (x : ℤ) where
  squares_push : squares f (xs ++ x ∷ []) ≡ squares f xs + square_in f x
  squares_push = sum_by_push (square_in f) xs x

  -- a part of the samples has a sum, where all have
  fewer_squares : HasSquares f (xs ++ x ∷ []) → HasSquares f xs
  fewer_squares h = record {
    short = all_front (λ y. IsShort f.a f.b y) xs x h.short;
    small = let e : squares f (xs ++ x ∷ []) ≡ squares f xs + square_in f x = squares_push in let s : squares f (xs ++ x ∷ []) < 2 ^ 192 = h.small in omega arith;
  }

  pub squares_more : (old new : Option Wide) → AreSquares f xs old → IsAdded f x old new → AreSquares f (xs ++ x ∷ []) new
  squares_more (Some w) (Some sum) h more = more ∙ ap (λ (n : ℕ). n + square_in f x) h ∙ sym squares_push
  squares_more (Some w) None h more = λ has.
      let e : squares f (xs ++ x ∷ []) ≡ squares f xs + square_in f x = squares_push in
      let s : squares f (xs ++ x ∷ []) < 2 ^ 192 = has.small in
      let same : number w ≡ squares f xs = h in
      let large : 2 ^ 192 ≤ number w + square_in f x = more (all_last (λ y. IsShort f.a f.b y) xs x has.short) in omega arith
  squares_more None None h more = λ has. h (fewer_squares has)
  squares_more None (Some sum) h more = absurd more
