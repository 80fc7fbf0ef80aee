use Rattle.std.proofs.Common.{◌≡◌, ◌+◌, ◌*◌, ◌^◌, ap, arith}
use Rattle.std.proofs.lemmas.Nat.{pow-add}
use Rattle.comtrade_format.proofs.values.cycle.with_zeros.Goals as goal

pub loop-i-preserved : goal.loop-i-preserved
loop-i-preserved c =
    let number = c.args.number in
    let i = c.loop-i.i in
    let next : number * 10 ^ (i + 1) ≡ number * (10 ^ i * 10 ^ 1) = ap (λ n. number * n) (pow-add 10 i 1) in
    omega (arith, next, c.in_ok-long.ensures, c.loop-i.invariant)
