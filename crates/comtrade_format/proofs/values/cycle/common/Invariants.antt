use Rattle.std.proofs.Common.{ℕ}
use Rattle.std.specs.Int.{IsGcd}
use Rattle.comtrade_format.proofs.values.cycle.common.Given as goal

-- what divides both of the numbers that are left is what divides both of the first
abbrev pub invariant-loop-less : goal.invariant-loop-less
invariant-loop-less l = (g : ℕ) → IsGcd l.greater l.less g → IsGcd l.x l.y g

abbrev pub decreases-loop-less : goal.decreases-loop-less
decreases-loop-less l = l.less
