use Rattle.std.proofs.Common.{◌≡◌, ◌++◌, take, map}
use Rattle.dfr_setup.specs.Plans.{status_of}
use Rattle.dfr_setup.proofs.prepared.add_channels.Given as goal

abbrev pub invariant-loop-plan : goal.invariant-loop-plan
invariant-loop-plan g l = l.status.items ≡ l.fn.status.items ++ map status_of (take l.plan-index l.plans)
