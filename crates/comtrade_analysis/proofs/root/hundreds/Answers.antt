use Rattle.std.proofs.Common.{◌≤◌, ◌^◌, arith}
use Rattle.std.proofs.Math.Nat.{pow-le-pow_right}
use Rattle.comtrade_analysis.proofs.root.hundreds.Goals as goal

pub pow-requires : goal.pow-requires
pow-requires c =
    let most : c.args.n ≤ 19 = omega arith in
    let small : 100 ^ c.args.n ≤ 100 ^ 19 = pow-le-pow_right {n = 100} (omega arith) most in omega arith
