use Rattle.std.proofs.Common.{◌≡◌, length}
use Rattle.dfr_plan.specs.Numbers.{hex_after}
use Rattle.dfr_plan.proofs.number.hex_of.Given as goal

abbrev pub invariant-loop-left : goal.invariant-loop-left
invariant-loop-left l = hex_after l.number l.left ≡ hex_after 0 l.fn.digits

abbrev pub decreases-loop-left : goal.decreases-loop-left
decreases-loop-left l = length l.left
