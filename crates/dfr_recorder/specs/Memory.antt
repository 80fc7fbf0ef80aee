-- Where a step may need memory.
use Rattle.std.specs.Prelude.{◌≡◌, Bool, ◌&&◌, ◌||◌, nat_lt, List, ◌∷◌, length, IsTrue}
use Rattle.dfr_channels.specs.Parts.{ScanParts}
use Rattle.dfr_recorder.specs.Steps.{StepParts}
use Rattle.dfr_recorder.specs.Steps as step
use Rattle.dfr_recorder.specs.History.{Opening, past, count, is_open}
use Rattle.dfr_recorder.specs.Kept.{Kept, kept}

-- after a history, the step adds a scan
abbrev pub accepts : Opening → List StepParts → StepParts → Bool
accepts o h s = nat_lt (count (past o h)) (count (past o (s ∷ h)))

-- after a history, the step opens a record
abbrev pub opens : Opening → List StepParts → StepParts → Bool
opens o h s = nat_lt (length (past o h).extents) (length (past o (s ∷ h)).extents)

-- for every history of which `old` is kept, the scan is accepted, and a record is open or it opens one
abbrev pub GrowsRecord : Kept → ScanParts → Type 0
GrowsRecord old scan = (o : Opening) (h : List StepParts) → kept o h ≡ old →
    IsTrue (accepts o h (step.Scan scan) && (is_open (past o h) || opens o h (step.Scan scan)))

-- for every history of which `old` is kept, a lost scan is accepted
abbrev pub AddsLost : Kept → Type 0
AddsLost old = (o : Opening) (h : List StepParts) → kept o h ≡ old → IsTrue (accepts o h step.Lost)

-- for every history of which `old` is kept, a trigger opens a record
abbrev pub OpensRecord : Kept → Type 0
OpensRecord old = (o : Opening) (h : List StepParts) → kept o h ≡ old → IsTrue (opens o h step.Trigger)

-- where a step may need memory: a scan that grows a record, a lost scan that is added and a trigger that opens a record; a take and
-- rules never do
abbrev pub WantsMemory : Kept → StepParts → Type 0
WantsMemory old (step.Scan scan) = GrowsRecord old scan
WantsMemory old step.Lost = AddsLost old
WantsMemory old step.Trigger = OpensRecord old
WantsMemory old step.Take = ⊥
WantsMemory old (step.SetRules rules) = ⊥
