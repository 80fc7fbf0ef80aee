use Rattle.std.proofs.Common.{◌*◌, ◌^◌, ◌<◌, arith, rules}
use Rattle.dfr_detect.proofs.Decimals.{few_places, times_fit}
use Rattle.dfr_detect.proofs.cycle.scans_times.Goals as goal

pub pow-requires : goal.pow-requires
pow-requires c =
    let most = few_places c.from-3.result (omega arith) in
    omega (arith, most)

pub overflow_mul-result-2 : goal.overflow_mul-result-2
overflow_mul-result-2 c =
    let most = few_places c.from-3.result (omega arith) in
    let fits = times_fit c.from.result c.from-2.result c.pow.result (omega arith) (omega arith) (omega (arith, most)) in
    let all : c.from.result * c.from-2.result * c.pow.result < 2 ^ 128 = omega (arith, fits) in
    search (rules, all)

pub returns-clause-bound : goal.returns-clause-bound
returns-clause-bound c =
    let most = few_places c.from-3.result (omega arith) in
    let fits = times_fit c.from.result c.from-2.result c.pow.result (omega arith) (omega arith) (omega (arith, most)) in
    omega (arith, fits)
