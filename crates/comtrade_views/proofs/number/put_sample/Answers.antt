use Rattle.std.proofs.Common.{ℤ, subst, w32}
use Rattle.std.proofs.lemmas.Int.{to_z-of_z}
use Rattle.comtrade_values.specs.Arithmetic.{IsShort}
use Rattle.comtrade_values.proofs.Scaled.{nothing_promised}
use Rattle.comtrade_views.proofs.number.put_sample.Goals as goal

pub returns-in-None : goal.returns-in-None
returns-in-None g c =
    let long : IsShort c.args.scale.a c.args.scale.b c.args.sample → ⊥ = subst (λ (z : ℤ). IsShort c.args.scale.a c.args.scale.b z → ⊥) (to_z-of_z w32 c.args.sample c.ranges.sample) c.in-None.ensures in
    nothing_promised _ _ _ long
