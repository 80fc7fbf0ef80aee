use Rattle.std.proofs.Common.{◌≡◌, ℤ, FitsSigned, to_z, of_z, w32, Some, sym, ap, ◌∙◌, rules}
use Rattle.std.proofs.lemmas.Int.{to_z-of_z}
use Rattle.comtrade_analysis.proofs.MoreRows.{next_extremes}
use Rattle.comtrade_analysis.proofs.extremes.extremes_with.Goals as goal

pub returns-in-Some-extremes : goal.returns-in-Some-extremes
returns-in-Some-extremes c = λ rows channel at h.
    let fits : FitsSigned w32 c.in-Some.sample = search rules in
    let x = to_z w32 (of_z w32 c.in-Some.sample) in
    let same : x ≡ c.in-Some.sample = to_z-of_z w32 c.in-Some.sample fits in
    next_extremes rows channel c.args.row c.args.extremes c.in-Some-extremes.before c.with.result x c.in-Some-extremes.is h
    (at ∙ c.in-Some.is ∙ ap (λ (z : ℤ). Some z) (sym same)) c.with.ensures.least c.with.ensures.greatest
