use Rattle.std.proofs.Common.{rules, ◌∙◌, sym, subst, ℤ, to_z-of_z, FitsSigned, w64}
use Rattle.std.specs.Prelude.{Option}
use Rattle.dfr_station.specs.Names.{IsDatedBy}
use Rattle.dfr_station.proofs.naming.key_of.Goals as goal

pub returns-in-Some : goal.returns-in-Some
returns-in-Some g c =
    let fits : FitsSigned w64 c.in-Some.instant = search rules in
    (c.key_at.ensures.number, c.key_at.ensures.first, subst (λ (at : Option ℤ). IsDatedBy at c.key_at.result) (sym c.in-Some.is ∙ c.trigger_shown.ensures) (simp to_z-of_z at c.key_at.ensures.dated))
