use Rattle.std.proofs.Common.{◌≡◌, ℤ, false, w32, w64, to_z, of_z, arith}
use Rattle.std.specs.Prelude.{pos, negsuc, ◌≤ℤ◌}
use Rattle.std.specs.Int.Signed.{lt_z}
use Rattle.std.proofs.lemmas.Int.{ints}
use Rattle.dfr_script.proofs.PlainNumbers.{begins}
use Rattle.dfr_script.proofs.plain.plain_field.Goals as goal

not_below : (a b : ℤ) → lt_z a b ≡ false → b ≤ℤ a
not_below a b e = grind (arith, ints)

pub returns-clause-first : goal.returns-clause-first
returns-clause-first c =
    let z : ℤ = c.in_ok-number.number in
    let wide : to_z w64 (of_z w64 z) ≡ z = omega (arith, ints, c.in_ok-number.ensures.above, c.in_ok-number.ensures.below) in
    let low : negsuc 2147483647 ≤ℤ z = not_below z (negsuc 2147483647) (rw wide at c.if-number.false) in
    let high : z ≤ℤ pos 2147483647 = not_below (pos 2147483647) z (rw wide at c.if-number-2.false) in
    let narrow : to_z w32 (of_z w32 z) ≡ z = omega (arith, ints) in
    rw (wide, narrow) (begins c.args.text.now z _ c.in_ok-number.ensures.first low high)

pub returns-in-Some-clause-first : goal.returns-in-Some-clause-first
returns-in-Some-clause-first c =
    let z : ℤ = c.in-Some.sample.0 in
    let low : negsuc 2147483647 ≤ℤ z = omega (arith, ints, c.in-Some.ensures.above) in
    let high : z ≤ℤ pos 2147483647 = omega (arith, ints, c.in-Some.ensures.below) in
    begins c.args.text.now z _ c.in-Some.ensures.first low high
