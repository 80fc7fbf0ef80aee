-- A number with zeros behind it.
use Rattle.std.proofs.Common.{ℕ, ◌*◌, ◌^◌, ◌≤◌, arith}
use Rattle.std.proofs.Math.Nat.{one-le-pow}
use Rattle.std.proofs.lemmas.Nat.{mul-le}

-- it is no smaller than the power of ten alone
pub power_below : (n z : ℕ) → 1 ≤ n → 10 ^ z ≤ n * 10 ^ z
power_below n z some = let m = mul-le 1 (10 ^ z) n (10 ^ z) some (omega arith) in omega (arith, m)

pub some_left : (n z : ℕ) → 1 ≤ n → 1 ≤ n * 10 ^ z
some_left n z some =
    let m = power_below n z some in
    let p = one-le-pow z 10 (omega arith) in
    omega (arith, m, p)
