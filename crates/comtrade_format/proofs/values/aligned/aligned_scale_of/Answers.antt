use Rattle.std.proofs.Common.{◌≡◌, w64, FitsSigned, max, rules}
use Rattle.std.proofs.lemmas.Int.{to_z-of_z}
use Rattle.comtrade_values.proofs.Scaled.{aligned_value_of}
use Rattle.comtrade_format.proofs.values.aligned.aligned_scale_of.Goals as goal

pub returns-clause-value : goal.returns-clause-value
returns-clause-value c = λ x.
    let factor : FitsSigned w64 c.in_ok-units_of.field-0 = search rules in
    let offset : FitsSigned w64 c.in_ok-units_of-2.field-0 = search rules in
    let places : c.max-places.result ≡ max c.args.a.places c.args.b.places = search rules in
    rw (to_z-of_z w64 _ factor, to_z-of_z w64 _ offset)
    (aligned_value_of c.args.a c.args.b c.max-places.result _ _ x places c.in_ok-units_of.ensures.value c.in_ok-units_of-2.ensures.value)

pub returns-clause-some : goal.returns-clause-some
returns-clause-some c = search rules depth 1
