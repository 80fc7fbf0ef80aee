use Rattle.std.proofs.Common.{length, ◌-◌, ◌≤◌}
use Rattle.dfr_look.specs.Throughs.{IsSoFar}
use Rattle.dfr_look.proofs.through.look_from.Given as goal

abbrev pub invariant-loop-at : goal.invariant-loop-at
invariant-loop-at g l = record {
  within : l.at ≤ length l.bytes;
  so_far : IsSoFar l.capture l.bytes l.at l.look l.times;
}

-- each packet leaves fewer bytes
abbrev pub decreases-loop-at : goal.decreases-loop-at
decreases-loop-at g l = length l.bytes - l.at
