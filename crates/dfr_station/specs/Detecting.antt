-- The bits of detectors, behind those of the contacts.
use Rattle.std.specs.Prelude.{◌≡◌, List, [], ◌∷◌, ◌++◌, map, reverse}
use Rattle.dfr_channels.specs.Parts.{ScanParts}
use Rattle.dfr_channels.specs.declared.scan.Reading.{Reading}
use Rattle.dfr_detect.specs.Detection.{Wanted, Detected, all_fire, AreDetections}
use Rattle.dfr_recorder.specs.Steps.{StepParts}
use Rattle.dfr_recorder.specs.Steps as step

-- one scan: `x` has the readings of `scan`, and behind its bits those of the detectors, of which `old` is kept before and `new` after it
abbrev pub IsDetected : List Detected → ScanParts → ScanParts → List Detected → Type 0
IsDetected old scan x new = (x.analog ≡ scan.analog) × AreDetections old scan.analog scan.status x.status new

-- what detectors see of a step: the readings of its scan; a lost scan has none
abbrev pub readings_in : StepParts → List Reading
readings_in (step.Scan scan) = scan.analog
readings_in step.Lost = []
readings_in step.Trigger = []
readings_in step.Take = []
readings_in (step.SetRules rules) = []

-- the scans of all steps, the newest first
abbrev pub history : List StepParts → List (List Reading)
history steps = reverse (map readings_in steps)

-- a scan that follows these steps, with the bits of the detectors behind its own: those of the definitions over all scans up to it
abbrev pub with_bits : List Wanted → List StepParts → ScanParts → ScanParts
with_bits ws steps scan = record { analog = scan.analog; status = scan.status ++ all_fire ws (scan.analog ∷ history steps) }
