use Rattle.std.proofs.Common.{◌≡◌, take, map}
use Rattle.std.specs.List.{All}
use Rattle.dfr_detect.specs.Lost.{Works}
use Rattle.dfr_setup.specs.Plans.{wanted_of}
use Rattle.dfr_setup.proofs.Moved.{fresh_of}
use Rattle.dfr_setup.proofs.prepared.detectors_of.Given as goal

abbrev pub invariant-loop-plan : goal.invariant-loop-plan
invariant-loop-plan g l = record {
  made : l.list.items ≡ map fresh_of (take l.plan-index l.plans);
  works : All (λ p. Works (wanted_of p)) (take l.plan-index l.plans);
}
