use Rattle.std.proofs.Common.{◌≡◌, ◌++◌, take}
use Rattle.std.specs.List.{flat_map}
use Rattle.dfr_health.specs.Metrics.{escaped_byte}
use Rattle.dfr_health.proofs.metrics.put_escaped.Given as goal

abbrev pub invariant-loop-b : goal.invariant-loop-b
invariant-loop-b g l = l.out.items ≡ l.initial.out.items ++ flat_map escaped_byte (take l.b-index l.name)
