use Rattle.std.proofs.Common.{◌≡◌, ℕ, ◌+◌, ◌*◌, ◌/◌, ◌%◌, ◌^◌, ◌≤◌, ap, ◌∙◌, arith}
use Rattle.std.proofs.Math.Nat.{mul-le-mul}
use Rattle.comtrade_analysis.proofs.wide.square_of.Goals as goal

-- the square of a number of two parts
by_parts : (u l : ℕ) → (u * u * 18446744073709551616 + (2 * u * l + l * l / 18446744073709551616)) * 18446744073709551616 + l * l % 18446744073709551616
    ≡ (u * 18446744073709551616 + l) * (u * 18446744073709551616 + l)
by_parts u l = omega arith

pub returns : goal.returns
returns c =
    let n = c.args.n in
    let whole : n / 18446744073709551616 * 18446744073709551616 + n % 18446744073709551616 ≡ n = omega arith in
    by_parts (n / 18446744073709551616) (n % 18446744073709551616) ∙ ap (λ (x : ℕ). x * x) whole

-- the square of what has more than 96 bits
long_square : (n : ℕ) → 2 ^ 96 ≤ n → 2 ^ 192 ≤ n * n
long_square n h = let e : 2 ^ 96 * 2 ^ 96 ≤ n * n = mul-le-mul h h in omega arith

pub returns-then-n-ge-MOST : goal.returns-then-n-ge-MOST
returns-then-n-ge-MOST c = long_square c.args.n c.if-n-ge-MOST.true
