use Rattle.std.proofs.Common.{◌≡◌, ℕ, ◌/◌, ◌<◌, refl, sym, subst, arith}
use Rattle.comtrade_analysis.specs.Wide.{number}
use Rattle.comtrade_analysis.specs.Roots.{IsFloor}
use Rattle.comtrade_analysis.proofs.Floors.{floor_of, zero_floor, below_quotient}
use Rattle.comtrade_analysis.proofs.mean_square.MeanSquare.square.Goals as goal

pub returns-then-self-eq0-2-clause-floor : goal.returns-then-self-eq0-2-clause-floor
returns-then-self-eq0-2-clause-floor c = zero_floor c.args.self (omega arith) (omega arith)

pub finer-requires-clause-low : goal.finer-requires-clause-low
finer-requires-clause-low c =
    let sum = number c.args.self.sum in
    let count = c.args.self.count in
    let value = c.in-Some.ensures.value in
    let small = c.in-Some.ensures.small in
    let whole : number c.divided-whole.result ≡ sum / count = c.divided-whole.ensures in
    let low : sum / count < c.args.least = omega (arith, value, small) in below_quotient sum count c.args.least (omega arith) low

pub coarser-requires-clause-floor : goal.coarser-requires-clause-floor
coarser-requires-clause-floor c =
    let mean = c.args.self in
    subst (λ (n : ℕ). IsFloor mean mean.places n) (sym c.divided-whole.ensures) (floor_of mean (number mean.sum) mean.places refl)
