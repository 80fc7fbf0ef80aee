use Rattle.std.proofs.Common.{◌≡◌, ◌∙◌, sym, ap, subst, rules, ℤ}
use Rattle.dfr_detect.specs.Phasors.{real, imaginary, power, power_of, IsPhasor}
use Rattle.dfr_detect.specs.declared.waves.Phasor.{Phasor}
use Rattle.dfr_detect.proofs.Phased.{real_bounded, imaginary_bounded, other_is}
use Rattle.dfr_detect.proofs.waves.Waves.other_power.Goals as goal

pub power-requires-clause-real : goal.power-requires-clause-real
power-requires-clause-real g c =
    let w = c.self.inside in
    let is = subst (λ (p : Phasor). IsPhasor w.ring.capacity w.other w.number w.ring.items p) (sym c.either.ensures) (other_is _ _ _ _ _ _ _ c.self.invariant.one c.self.invariant.two) in
    real_bounded _ _ _ _ _ is c.self.invariant.small c.self.invariant.few c.self.invariant.bounded

pub power-requires-clause-imaginary : goal.power-requires-clause-imaginary
power-requires-clause-imaginary g c =
    let w = c.self.inside in
    let is = subst (λ (p : Phasor). IsPhasor w.ring.capacity w.other w.number w.ring.items p) (sym c.either.ensures) (other_is _ _ _ _ _ _ _ c.self.invariant.one c.self.invariant.two) in
    imaginary_bounded _ _ _ _ _ is c.self.invariant.small c.self.invariant.few c.self.invariant.bounded

pub returns-clause-value : goal.returns-clause-value
returns-clause-value g c =
    let w = c.self.inside in
    let is = subst (λ (p : Phasor). IsPhasor w.ring.capacity w.other w.number w.ring.items p) (sym c.either.ensures) (other_is _ _ _ _ _ _ _ c.self.invariant.one c.self.invariant.two) in
    let value : c.power.result ≡ power_of w.ring.capacity w.other w.number w.ring.items =
    c.power.ensures.value ∙ ap (λ (v : ℤ). power v c.either.result.imaginary) is.real ∙ ap (power (real w.ring.capacity w.other w.number w.ring.items)) is.imaginary in
    search (rules, value)
