use Rattle.std.proofs.Common.{◌^◌, ◌≤◌, arith}
use Rattle.std.proofs.Math.Nat.{pow-le-pow_right}
use Rattle.comtrade_format.proofs.values.clock.ten_to.Goals as goal

pub pow-requires : goal.pow-requires
pow-requires c =
    let p : 10 ^ c.args.zeros ≤ 10 ^ 38 = pow-le-pow_right {n = 10} (omega arith) {i = c.args.zeros} {j = 38} (omega arith) in
    omega arith
