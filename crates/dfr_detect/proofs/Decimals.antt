-- A rate and a number of cycles fit, without the decimal places of a frequency.
use Rattle.std.proofs.Common.{ℕ, ◌*◌, ◌^◌, ◌<◌, ◌≤◌, arith}
use Rattle.std.proofs.Math.Nat.{pow-le-pow_right, mul-le-mul}

pub few_places : (places : ℕ) → places ≤ 18 → 10 ^ places ≤ 10 ^ 18
few_places places h = pow-le-pow_right {n = 10} (omega arith) {i = places} {j = 18} h

pub times_fit : (rate cycles scale : ℕ) → rate ≤ 2 ^ 32 → cycles ≤ 2 ^ 32 → scale ≤ 10 ^ 18 → rate * cycles * scale < 2 ^ 125
times_fit rate cycles scale r c s =
    let most = mul-le-mul (mul-le-mul r c) s in
    omega (arith, most)
