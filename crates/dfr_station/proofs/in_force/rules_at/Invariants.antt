use Rattle.std.proofs.Common.{◌≡◌, length}
use Rattle.dfr_station.specs.InForce.{in_force}
use Rattle.dfr_station.proofs.in_force.rules_at.Given as goal

-- those passed over were set later
abbrev pub invariant-loop-left : goal.invariant-loop-left
invariant-loop-left g l = in_force l.scan l.left ≡ in_force l.scan l.sets

abbrev pub decreases-loop-left : goal.decreases-loop-left
decreases-loop-left g l = length l.left
