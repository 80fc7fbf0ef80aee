use Rattle.std.proofs.Common.{◌≡◌, List}
use Rattle.dfr_recorder.specs.declared.step.Scanned.{Scanned}
use Rattle.dfr_station.specs.Finishing.{LosesScans}
use Rattle.dfr_station.proofs.finish.is_closed.Given as goal

abbrev pub invariant-loop : goal.invariant-loop
invariant-loop g l =
    ((lost : List Scanned) × LosesScans l.initial.recorder lost l.recorder) × (l.recorder.layout ≡ l.initial.recorder.layout)
