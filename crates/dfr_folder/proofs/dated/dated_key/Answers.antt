use Rattle.std.proofs.Common.{rules, to_z-of_z, FitsSigned, refl, w16, w64}
use Rattle.dfr_folder.proofs.dated.dated_key.Goals as goal

pub returns-in-Some-clause-dated : goal.returns-in-Some-clause-dated
returns-in-Some-clause-dated c = λ h.
    let fits : FitsSigned w64 c.args.instant = c.ranges.instant in
    let year_fits : FitsSigned w16 c.in-Some.civil.date.year = search rules in
    let value = simp to_z-of_z at c.in-Some.ensures.value in
    let year = simp to_z-of_z at c.unsigned_abs.ensures.value in
    (c.in-Some.civil, value, rw (c.packed.ensures, year) refl, c.packed-in-Some.ensures, refl)
