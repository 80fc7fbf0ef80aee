use Rattle.std.proofs.Common.{rules, ◌*◌, ◌<◌, ◌-◌, ◌^◌, arith, length}
use Rattle.comtrade_read.proofs.Digits.{micros_fit}
use Rattle.comtrade_read.proofs.instant.micros.Goals as goal

pub overflow_mul-result : goal.overflow_mul-result
overflow_mul-result c =
    let p : c.in_ok-number.number * 10 ^ (6 - length c.args.text.now) < 1000000 = micros_fit c.in_ok-number.number (length c.args.text.now) c.in_ok-number.ensures.short.0 c.in_ok-number.ensures.short.1 in
    search (rules, arith)

pub returns-clause-bound : goal.returns-clause-bound
returns-clause-bound c =
    let short = c.in_ok-number.ensures.short.0 in
    let p : c.in_ok-number.number * 10 ^ (6 - length c.args.text.now) < 1000000 = micros_fit c.in_ok-number.number (length c.args.text.now) short c.in_ok-number.ensures.short.1 in
    rw c.pow.ensures p
