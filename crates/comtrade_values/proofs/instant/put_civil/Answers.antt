use Rattle.std.proofs.Common.{append_assoc, rules, to_z-of_z, FitsSigned, w64}
use Rattle.std.proofs.lemmas.Result.{IfOk-equal}
use Rattle.comtrade_values.specs.Dates.{civil_text, day_number, time_of_day}
use Rattle.comtrade_values.proofs.instant.put_civil.Goals as goal

pub returns : goal.returns
unfolding civil_text day_number time_of_day
returns g c =
    let fits : FitsSigned w64 c.args.instant = c.ranges.instant in
    let day = simp to_z-of_z at c.div_euclid.ensures in
    let rest = simp to_z-of_z at c.rem_euclid.ensures.value in
    let rest_fits : FitsSigned w64 c.rem_euclid.result = search rules in
    let small = simp to_z-of_z at c.unsigned_abs.ensures.value in
    rw (← day, ← rest, ← small) (search (rules, IfOk-equal, append_assoc))
