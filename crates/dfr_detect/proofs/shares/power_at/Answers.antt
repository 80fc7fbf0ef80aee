use Rattle.std.proofs.Common.{◌*◌, ◌^◌, ◌<◌, ◌≤◌, arith, rules}
use Rattle.std.proofs.Math.Nat.{mul-le-mul}
use Rattle.dfr_detect.proofs.shares.power_at.Goals as goal

pub overflow_mul-result-3 : goal.overflow_mul-result-3
overflow_mul-result-3 c =
    let n : c.from-scans.result ≤ 2 ^ 12 = omega arith in
    let rms : c.from-rms.result ≤ 3 * 2 ^ 40 = omega arith in
    let most = mul-le-mul (mul-le-mul n n) (mul-le-mul rms rms) in
    let fits : c.from-scans.result * c.from-scans.result * (c.from-rms.result * c.from-rms.result) < 2 ^ 128 = omega (arith, most) in
    search (rules, fits)
