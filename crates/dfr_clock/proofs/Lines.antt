-- Straight lines in whole numbers.
use Rattle.std.proofs.Common.{ℕ, ◌+◌, ◌*◌, ◌/◌, ◌≤◌, arith}
use Rattle.std.proofs.lemmas.Nat.{div_below}
use Rattle.std.proofs.Math.Nat.{mul-le-mul_left}

-- a line that gains at most twice its width gains at most 2 at each step
pub gains : (e d w : ℕ) → 1 ≤ w → d ≤ 2 * w → e * d / w ≤ 2 * e
gains e d w some slow =
    let product = mul-le-mul_left e slow in
    let below = div_below (e * d) w (2 * e + 1) some (omega (arith, product)) in
    omega (arith, below)
