use Rattle.std.proofs.Common.{◌/◌, arith}
use Rattle.itoa.proofs.Decimal.{length_one, length_two, length_pair, length_four}
use Rattle.comtrade_format.proofs.value_text.zeros_before.Goals as goal

pub returns-then-n-lt10-clause-five : goal.returns-then-n-lt10-clause-five
returns-then-n-lt10-clause-five c = let l = length_one c.args.n (omega arith) in omega arith

pub returns-then-n-lt100-clause-five : goal.returns-then-n-lt100-clause-five
returns-then-n-lt100-clause-five c = let l = length_two c.args.n (omega arith) (omega arith) in omega arith

pub returns-then-n-lt1000-clause-five : goal.returns-then-n-lt1000-clause-five
returns-then-n-lt1000-clause-five c =
    let l = length_pair c.args.n (omega arith) (omega arith) in
    let m = length_one (c.args.n / 100) (omega arith) in
    omega arith

pub returns-then-n-lt10000-clause-five : goal.returns-then-n-lt10000-clause-five
returns-then-n-lt10000-clause-five c =
    let l = length_pair c.args.n (omega arith) (omega arith) in
    let m = length_two (c.args.n / 100) (omega arith) (omega arith) in
    omega arith

pub returns-else-n-lt10000-clause-five : goal.returns-else-n-lt10000-clause-five
returns-else-n-lt10000-clause-five c =
    let l = length_four c.args.n (omega arith) (omega arith) in
    let m = length_one (c.args.n / 10_000) (omega arith) in
    omega arith
