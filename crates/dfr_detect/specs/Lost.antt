-- Detectors and lost scans.
use Rattle.std.specs.Prelude.{◌≡◌, ◌≤◌, List, [], ◌∷◌, length}
use Rattle.dfr_channels.specs.declared.scan.Reading.{Reading}
use Rattle.dfr_detect.specs.Detection.{Wanted, Detected, all_detected}
use Rattle.dfr_detect.specs.Fitting.{Fits}

-- for every history of which `old` is kept, `new` is kept of it and a lost scan, which has no readings
abbrev pub AreAfterLoss : List Detected → List Detected → Type 0
AreAfterLoss old new = (ws : List Wanted) (scans : List (List Reading)) → all_detected ws scans ≡ old → all_detected ws ([] ∷ scans) ≡ new

-- a detector whose settings have no fault, of at least one channel: it starts anew after a lost scan
pub record Works (w : Wanted) : Type 0 where
  pub fits : Fits w.settings
  pub some : 1 ≤ length w.channels
