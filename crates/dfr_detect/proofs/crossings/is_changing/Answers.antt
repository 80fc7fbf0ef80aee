use Rattle.std.proofs.Common.{◌≤◌, ◌<◌, ◌+◌, ◌*◌, ◌^◌, arith, rules}
use Rattle.std.proofs.Math.Nat.{mul-le-mul}
use Rattle.dfr_detect.proofs.crossings.is_changing.Goals as goal

pub overflow_mul-result-3 : goal.overflow_mul-result-3
overflow_mul-result-3 c =
    let level : c.from-3.result ≤ 2 ^ 31 = omega arith in
    let newer : c.from-newer.result ≤ 2 ^ 32 = omega arith in
    let older : c.from-older.result ≤ 2 ^ 32 = omega arith in
    let both : c.from-newer.result + c.from-older.result ≤ 2 ^ 32 = omega arith in
    let most = mul-le-mul level (mul-le-mul (mul-le-mul newer older) both) in
    let fits : c.from-3.result * (c.from-newer.result * c.from-older.result * (c.from-newer.result + c.from-older.result)) < 2 ^ 128 = omega (arith, most) in
    search (rules, fits)

pub overflow_mul-result-6 : goal.overflow_mul-result-6
overflow_mul-result-6 c =
    let cycles : c.from-4.result ≤ 64 = omega arith in
    let rate : c.from.result ≤ 1_000_000 = omega arith in
    let scan : c.from-2.result ≤ 65_536 = omega arith in
    let scale = mul-le-mul rate scan in
    let first : 2000 * c.from-4.result ≤ 128_000 = omega arith in
    let most = mul-le-mul first (mul-le-mul scale scale) in
    let fits : 2000 * c.from-4.result * (c.from.result * c.from-2.result * (c.from.result * c.from-2.result)) < 2 ^ 128 = omega (arith, most) in
    search (rules, fits)

pub overflow_mul-result-7 : goal.overflow_mul-result-7
overflow_mul-result-7 c =
    let cycles : c.from-4.result ≤ 64 = omega arith in
    let rate : c.from.result ≤ 1_000_000 = omega arith in
    let scan : c.from-2.result ≤ 65_536 = omega arith in
    let apart : c.from-apart.result ≤ 2 ^ 32 = omega arith in
    let scale = mul-le-mul rate scan in
    let first : 2000 * c.from-4.result ≤ 128_000 = omega arith in
    let most = mul-le-mul (mul-le-mul first (mul-le-mul scale scale)) apart in
    let fits : 2000 * c.from-4.result * (c.from.result * c.from-2.result * (c.from.result * c.from-2.result)) * c.from-apart.result < 2 ^ 128 = omega (arith, most) in
    search (rules, fits)
