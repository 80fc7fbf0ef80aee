use Rattle.std.proofs.Common.{◌≡◌, ℤ, ◌+◌, FitsSigned, to_z, of_z, w32, List, [], ◌∷◌, ◌++◌, Option, Some, None, refl, sym, ◌∙◌, subst, rules}
use Rattle.std.proofs.lemmas.Int.{to_z-of_z}
use Rattle.comtrade_analysis.specs.Readings.{sample_at}
use Rattle.comtrade_analysis.specs.Sums.{present}
use Rattle.comtrade_analysis.specs.MeanSquares.{AreSquares, IsAdded}
use Rattle.comtrade_analysis.specs.declared.wide.Wide.{Wide}
use Rattle.comtrade_analysis.proofs.MoreSquares.{squares_more}
use Rattle.comtrade_analysis.proofs.Ranges.{some_more, none_more}
use Rattle.comtrade_analysis.proofs.squares.squares_over.Goals as goal
use Rattle.comtrade_analysis.proofs.squares.squares_over.Goals.{in-Some, in_default}

pub loop-i-preserved : goal.loop-i-preserved
loop-i-preserved g c =
    let rows = c.args.rows.now in
    let channel = c.args.channel in
    let first = c.args.window.first in
    let factors = c.args.factors.now in
    let n = c.loop-i.i in
    let old = c.loop-i.sum in
    elim c.match-sample_at.branch [
      | in-Some w ↦
          let x = w.in-Some.sample in
          let fits : FitsSigned w32 x = search rules in
          let same : to_z w32 (of_z w32 x) ≡ x = to_z-of_z w32 x fits in
          let at : sample_at rows channel (first + n) ≡ Some x = sym c.sample_at.ensures ∙ w.in-Some.is in
          let step : present rows channel first (n + 1) ≡ present rows channel first n ++ x ∷ [] =
          some_more (sample_at rows channel) first n (first + n) x refl at in
          let more : IsAdded factors x old w.added-sum.result = subst (λ (y : ℤ). IsAdded factors y old w.added-sum.result) same w.added-sum.ensures in
          subst (λ (s : Option Wide). AreSquares factors (present rows channel first (n + 1)) s) (sym w.sum-is)
          (subst (λ (xs : List ℤ). AreSquares factors xs w.added-sum.result) (sym step)
          (squares_more factors (present rows channel first n) x old w.added-sum.result c.loop-i.invariant more))
      | in_default w ↦
          let at : sample_at rows channel (first + n) ≡ None = sym c.sample_at.ensures ∙ w.in_default.is in
          let step : present rows channel first (n + 1) ≡ present rows channel first n =
          none_more (sample_at rows channel) first n (first + n) refl at in
          subst (λ (s : Option Wide). AreSquares factors (present rows channel first (n + 1)) s) (sym w.sum-is)
          (subst (λ (xs : List ℤ). AreSquares factors xs old) (sym step) c.loop-i.invariant)
    ]
