use Rattle.std.proofs.Common.{◌≡◌, ◌≤◌, ◌^◌, sym, subst, arith, rules, ℤ, ◌*ℤ◌, w32, w64, SFits}
use Rattle.std.specs.Prelude.{unsigned_abs}
use Rattle.std.proofs.lemmas.Int.{ints, to_z-of_z}
use Rattle.dfr_detect.proofs.Weighing.{product_small, fits}
use Rattle.dfr_detect.proofs.waves.product.Goals as goal

pub returns-clause-value : goal.returns-clause-value
returns-clause-value c =
    let x : SFits w64 c.args.x = c.ranges.x in
    let weight : SFits w32 c.args.weight = c.ranges.weight in
    let from : c.from.result ≡ c.args.weight = simp to_z-of_z at c.from.ensures in
    let wide : SFits w64 c.args.weight = fits c.args.weight (omega (arith, c.requires.weight)) in
    let most = product_small c.args.weight c.args.x (2 ^ 14) (2 ^ 40) c.requires.weight c.requires.x in
    let small : unsigned_abs (c.args.weight *ℤ c.args.x) ≤ 2 ^ 60 = omega (arith, most) in
    rw (from, to_z-of_z w64 c.args.weight wide, to_z-of_z w64 c.args.x x) (to_z-of_z w64 (c.args.weight *ℤ c.args.x) (fits (c.args.weight *ℤ c.args.x) small))

pub returns-clause-bound : goal.returns-clause-bound
returns-clause-bound c =
    let most = product_small c.args.weight c.args.x (2 ^ 14) (2 ^ 40) c.requires.weight c.requires.x in
    let small : unsigned_abs (c.args.weight *ℤ c.args.x) ≤ 2 ^ 54 = omega (arith, most) in
    subst (λ (v : ℤ). unsigned_abs v ≤ 2 ^ 54) (sym (returns-clause-value c)) small
