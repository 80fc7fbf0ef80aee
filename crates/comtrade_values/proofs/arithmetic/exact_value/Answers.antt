use Rattle.std.proofs.Common.{ℤ, subst, rules, w32}
use Rattle.std.proofs.lemmas.Int.{to_z-of_z}
use Rattle.comtrade_values.specs.Spelling.{IsNumber}
use Rattle.comtrade_values.specs.Arithmetic.{times}
use Rattle.comtrade_values.proofs.Scaled.{none_if, no_product, no_wide_product, no_wide_offset, value_of}
use Rattle.comtrade_values.proofs.arithmetic.exact_value.Goals as goal

pub returns-in_err-product : goal.returns-in_err-product
returns-in_err-product c =
    let long : IsNumber (times c.args.a c.args.sample) → ⊥ = subst (λ (z : ℤ). IsNumber (times c.args.a z) → ⊥) (to_z-of_z w32 c.args.sample c.ranges.sample) c.in_err-product.ensures in
    none_if _ _ _ c.from_residual.ensures (no_product c.args.a c.args.b c.args.sample long)

pub returns-in_err-product-2 : goal.returns-in_err-product-2
returns-in_err-product-2 c = search (rules, no_wide_product)

pub returns-in_err-offset : goal.returns-in_err-offset
returns-in_err-offset c = search (rules, no_wide_offset)

pub returns : goal.returns
returns c = search (rules, value_of)
