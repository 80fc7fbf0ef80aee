use Rattle.std.proofs.Common.{◌≡◌, ℕ, ℤ, ◌+ℤ◌, ◌*ℤ◌, w32, w64, FitsSigned, to_z, of_z, ap, ◌∙◌, subst, rules, IfSome}
use Rattle.std.proofs.lemmas.Int.{to_z-of_z}
use Rattle.comtrade_values.specs.Arithmetic.{number_of}
use Rattle.comtrade_format.specs.Values.{WritesValue}
use Rattle.comtrade_format.proofs.values.aligned.AlignedScale.write_value.Goals as goal

pub returns-clause-value : goal.returns-clause-value
returns-clause-value c =
    let self = c.args.self in
    let fits : FitsSigned w64 c.in_ok-units.units = search rules in
    let units : to_z w64 (of_z w64 c.in_ok-units.units) ≡ self.a *ℤ c.args.sample +ℤ self.b =
    to_z-of_z w64 _ fits ∙ c.in_ok-units.ensures.value ∙ ap (λ (x : ℤ). self.a *ℤ x +ℤ self.b) (to_z-of_z w32 c.args.sample c.ranges.sample) in
    subst
    (λ (z : ℤ). IfSome c.write_shortened.result (λ (end : ℕ). WritesValue c.args.slot.now c.write_shortened.new.slot c.args.at end (number_of z self.places)))
    units c.write_shortened.ensures.value

pub returns-clause-none : goal.returns-clause-none
returns-clause-none c = search rules depth 1

pub returns-clause-some : goal.returns-clause-some
returns-clause-some c = search rules depth 1
