use Rattle.std.proofs.Common.{◌≡◌, ◌≤◌}
use Rattle.comtrade_values.specs.Arithmetic.{with_places}
use Rattle.comtrade_values.proofs.arithmetic.without_zeros.Given as goal

-- the same number with fewer places
abbrev pub invariant-loop-shorter : goal.invariant-loop-shorter
invariant-loop-shorter l = (l.trimmed.places ≤ l.fn.number.places) × (with_places l.fn.number.places l.trimmed ≡ l.fn.number)

abbrev pub decreases-loop-shorter : goal.decreases-loop-shorter
decreases-loop-shorter l = l.trimmed.places
