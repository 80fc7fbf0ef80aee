use Rattle.std.proofs.Common.{◌≡◌, ◌+◌, ◌≤◌, ℤ, ◌+ℤ◌, FitsSigned, to_z, of_z, w32, List, [], ◌∷◌, ◌++◌, Some, None, refl, sym, ap, ◌∙◌, subst, arith, rules}
use Rattle.std.proofs.lemmas.Int.{to_z-of_z}
use Rattle.comtrade_analysis.specs.Readings.{sample_at}
use Rattle.comtrade_analysis.specs.Sums.{present, square, AreSums, IsSmall}
use Rattle.comtrade_analysis.specs.declared.sums.Sums.{Sums}
use Rattle.comtrade_analysis.proofs.MoreSums.{sums_more}
use Rattle.comtrade_analysis.proofs.Ranges.{some_more, none_more}
use Rattle.comtrade_analysis.proofs.sums.sums_over.Goals as goal
use Rattle.comtrade_analysis.proofs.sums.sums_over.Goals.{in-Some, in_default}

pub loop-i-preserved : goal.loop-i-preserved
loop-i-preserved g c =
    let rows = c.args.rows.now in
    let channel = c.args.channel in
    let first = c.args.window.first in
    let n = c.loop-i.i in
    let old = c.loop-i.sums in
    elim c.match-sample_at.branch [
      | in-Some w ↦
          let x = w.in-Some.sample in
          let new = w.with-sums.result in
          let fits : FitsSigned w32 w.in-Some.sample = search rules in
          let same : to_z w32 (of_z w32 w.in-Some.sample) ≡ w.in-Some.sample = to_z-of_z w32 w.in-Some.sample fits in
          let at : sample_at rows channel (first + n) ≡ Some x = sym c.sample_at.ensures ∙ w.in-Some.is in
          let step : present rows channel first (n + 1) ≡ present rows channel first n ++ x ∷ [] =
          some_more (sample_at rows channel) first n (first + n) x refl at in
          let count : new.count ≡ old.count + 1 = w.with-sums.ensures.count in
          let sum : new.sum ≡ old.sum +ℤ x = cc (same, w.with-sums.ensures.sum) in
          let squares : new.squares ≡ old.squares + square x = cc (same, w.with-sums.ensures.squares) in
          let sums : AreSums (present rows channel first n ++ x ∷ []) new =
          sums_more (present rows channel first n) old new x c.loop-i.invariant.sums count sum squares in
          record {
            sums = subst (λ (s : Sums). AreSums (present rows channel first (n + 1)) s) (sym w.sums-is)
                (subst (λ (xs : List ℤ). AreSums xs new) (sym step) sums);
            small = subst IsSmall (sym w.sums-is) w.with-sums.ensures.small;
            few = let is : c.match-sample_at.sums.count ≡ new.count = ap (λ (s : Sums). s.count) w.sums-is in
                let few : old.count ≤ n = c.loop-i.invariant.few in omega arith;
          }
      | in_default w ↦
          let at : sample_at rows channel (first + n) ≡ None = sym c.sample_at.ensures ∙ w.in_default.is in
          let step : present rows channel first (n + 1) ≡ present rows channel first n =
          none_more (sample_at rows channel) first n (first + n) refl at in
          record {
            sums = subst (λ (s : Sums). AreSums (present rows channel first (n + 1)) s) (sym w.sums-is)
                (subst (λ (xs : List ℤ). AreSums xs old) (sym step) c.loop-i.invariant.sums);
            small = subst IsSmall (sym w.sums-is) c.loop-i.invariant.small;
            few = let is : c.match-sample_at.sums.count ≡ old.count = ap (λ (s : Sums). s.count) w.sums-is in
                let few : old.count ≤ n = c.loop-i.invariant.few in omega arith;
          }
    ]
