use Rattle.std.proofs.Common.{◌≡◌, ℕ, ◌+◌, ◌*◌, ◌/◌, ◌%◌, ◌<◌, sym, ap, ◌∙◌, arith}
use Rattle.std.proofs.Math.Nat.{mul-add-div}
use Rattle.comtrade_analysis.proofs.wide.Wide.divided.Goals as goal

-- the quotient of a number of two parts
by_parts : (h l by : ℕ) → 0 < by
    → h / by * 18446744073709551616 + (h % by * 18446744073709551616 + l) / by ≡ (h * 18446744073709551616 + l) / by
by_parts h l by some =
    let split : h * 18446744073709551616 + l ≡ by * (h / by * 18446744073709551616) + (h % by * 18446744073709551616 + l) = omega arith in
    sym (ap (λ (n : ℕ). n / by) split ∙ mul-add-div some (h / by * 18446744073709551616) (h % by * 18446744073709551616 + l))

pub returns : goal.returns
returns c = by_parts c.args.self.high c.args.self.low c.args.by c.requires
