use Rattle.std.proofs.Common.{◌≡◌, ◌∙◌, refl, ◌≤◌, ◌^◌, sym, subst, arith, rules, ℤ, ◌+ℤ◌, ◌*ℤ◌, w32, w64, SFits, to_z, of_z}
use Rattle.std.specs.Prelude.{unsigned_abs}
use Rattle.std.proofs.lemmas.Int.{ints, to_z-of_z}
use Rattle.dfr_detect.proofs.Weighing.{change_small, fits, two_small, three_small}
use Rattle.dfr_detect.proofs.waves.weighed.Goals as goal

pub overflow_add-result : goal.overflow_add-result
overflow_add-result c = omega (arith, ints)

pub overflow_add-result-2 : goal.overflow_add-result-2
overflow_add-result-2 c = omega (arith, ints)

pub returns-clause-value : goal.returns-clause-value
returns-clause-value c =
    let a : SFits w32 c.args.a = c.ranges.a in
    let b : SFits w32 c.args.b = c.ranges.b in
    let d : SFits w32 c.args.c = c.ranges.c in
    let x : SFits w64 c.args.x.a = search rules in
    let y : SFits w64 c.args.x.b = search rules in
    let z : SFits w64 c.args.x.c = search rules in
    let p : c.product.result ≡ c.args.a *ℤ c.args.x.a = simp to_z-of_z at c.product.ensures.value in
    let q : c.product-2.result ≡ c.args.b *ℤ c.args.x.b = simp to_z-of_z at c.product-2.ensures.value in
    let r : c.product-3.result ≡ c.args.c *ℤ c.args.x.c = simp to_z-of_z at c.product-3.ensures.value in
    let one : unsigned_abs c.product.result ≤ 2 ^ 54 = c.product.ensures.bound in
    let two : unsigned_abs c.product-2.result ≤ 2 ^ 54 = c.product-2.ensures.bound in
    let three : unsigned_abs c.product-3.result ≤ 2 ^ 54 = c.product-3.ensures.bound in
    let f = fits c.product.result (omega (arith, one)) in
    let g = fits c.product-2.result (omega (arith, two)) in
    let h = fits c.product-3.result (omega (arith, three)) in
    let both = fits (c.product.result +ℤ c.product-2.result) (two_small c.product.result c.product-2.result one two) in
    let all = fits (c.product.result +ℤ c.product-2.result +ℤ c.product-3.result) (three_small c.product.result c.product-2.result c.product-3.result one two three) in
    let added : to_z w64 (of_z w64 (to_z w64 (of_z w64 (to_z w64 (of_z w64 c.product.result) +ℤ to_z w64 (of_z w64 c.product-2.result))) +ℤ to_z w64 (of_z w64 c.product-3.result)))
    ≡ c.product.result +ℤ c.product-2.result +ℤ c.product-3.result =
    rw (to_z-of_z w64 c.product.result f, to_z-of_z w64 c.product-2.result g, to_z-of_z w64 c.product-3.result h, to_z-of_z w64 (c.product.result +ℤ c.product-2.result) both)
    (to_z-of_z w64 (c.product.result +ℤ c.product-2.result +ℤ c.product-3.result) all) in
    added ∙ rw (p, q, r) refl

pub returns-clause-bound : goal.returns-clause-bound
returns-clause-bound c =
    let most = change_small c.args.a c.args.b c.args.c c.args.x c.requires.a c.requires.b c.requires.c c.requires.x in
    subst (λ (v : ℤ). unsigned_abs v ≤ 2 ^ 56) (sym (returns-clause-value c)) most
