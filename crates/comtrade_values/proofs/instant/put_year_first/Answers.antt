use Rattle.std.proofs.Common.{append_assoc, rules, to_z-of_z, FitsSigned, w16, w64}
use Rattle.std.proofs.lemmas.Result.{IfOk-equal}
use Rattle.comtrade_values.specs.Dates.{year_first}
use Rattle.comtrade_values.proofs.Civil.{civil_of-date}
use Rattle.comtrade_values.proofs.instant.put_year_first.Goals as goal

pub returns : goal.returns
unfolding year_first
returns g c =
    let fits : FitsSigned w64 c.args.day = c.ranges.day in
    let at = simp to_z-of_z at c.in-Ok.ensures.value in
    let is = civil_of-date c.in-Ok.date.year c.in-Ok.date.month c.in-Ok.date.day c.args.day (c.in-Ok.date.year_in, c.in-Ok.date.month_in, c.in-Ok.date.day_in) at c.requires.0 in
    let year_fits : FitsSigned w16 c.in-Ok.date.year = search rules in
    let year = simp to_z-of_z at c.unsigned_abs.ensures.value in
    rw (is.0, ← year) (search (rules, IfOk-equal, append_assoc))
