use Rattle.std.proofs.Common.{◌≡◌, ℤ, ◌+◌, FitsSigned, to_z, of_z, w32, List, [], ◌∷◌, ◌++◌, Some, None, refl, sym, ap, ◌∙◌, rules}
use Rattle.std.proofs.lemmas.Int.{to_z-of_z}
use Rattle.comtrade_analysis.specs.Readings.{sample_at}
use Rattle.comtrade_analysis.specs.Sums.{present}
use Rattle.comtrade_analysis.proofs.Ranges.{some_more, none_more}
use Rattle.comtrade_analysis.proofs.samples.samples_in.Goals as goal
use Rattle.comtrade_analysis.proofs.samples.samples_in.Goals.{in-Some+in_ok-push, in_default}

pub loop-i-preserved : goal.loop-i-preserved
loop-i-preserved g c =
    let rows = c.args.rows.now in
    let channel = c.args.channel in
    let first = c.args.window.first in
    let n = c.loop-i.i in
    let old = c.loop-i.samples.items in
    elim c.match-sample_at.branch [
      | in-Some+in_ok-push w ↦
          let x = w.in-Some.sample in
          let at : sample_at rows channel (first + n) ≡ Some x = sym c.sample_at.ensures ∙ w.in-Some.is in
          let step : present rows channel first (n + 1) ≡ present rows channel first n ++ x ∷ [] =
          some_more (sample_at rows channel) first n (first + n) x refl at in
          let fits : FitsSigned w32 x = search rules in
          let same : to_z w32 (of_z w32 x) ≡ x = to_z-of_z w32 x fits in
          rw (w.samples-is, w.in_ok-push.ensures.items)
          (ap (λ (y : ℤ). old ++ y ∷ []) same ∙ ap (λ (xs : List ℤ). xs ++ x ∷ []) c.loop-i.invariant ∙ sym step)
      | in_default w ↦
          let at : sample_at rows channel (first + n) ≡ None = sym c.sample_at.ensures ∙ w.in_default.is in
          let step : present rows channel first (n + 1) ≡ present rows channel first n =
          none_more (sample_at rows channel) first n (first + n) refl at in
          rw w.samples-is (c.loop-i.invariant ∙ sym step)
    ]
