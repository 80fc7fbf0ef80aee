use Rattle.std.proofs.Common.{◌≡◌, ℕ, ◌+◌, ◌*◌, ◌/◌, ◌^◌, ◌≤◌, ◌∙◌, ap, arith}
use Rattle.std.proofs.Math.Nat.{mul-le-mul_right, pow-suc}
use Rattle.comtrade_views.proofs.number.number_of.Goals as goal

one_more : (n : ℕ) → 10 ^ (n + 1) ≡ 10 ^ n * 10
one_more n = ap (λ k. 10 ^ k) (omega arith) ∙ pow-suc 10 n

-- without its last digit, a size has a tenth at most
shortened : (size n most : ℕ) → size * 10 ^ n ≤ most → (size / 10) * 10 ^ (n + 1) ≤ most
shortened size n most small =
    let t = 10 ^ n in
    let q = size / 10 in
    let below : q * 10 * t ≤ size * t = mul-le-mul_right t (omega arith) in
    let grown : q * 10 ^ (n + 1) ≡ q * 10 * t = ap (λ k. q * k) (one_more n) ∙ omega arith in
    omega (arith, below, grown)

pub loop-dropped-preserved : goal.loop-dropped-preserved
loop-dropped-preserved c = shortened _ _ _ c.loop-dropped.invariant
