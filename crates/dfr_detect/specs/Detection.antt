-- Detectors over the scans of all channels. A history has the readings of each scan, the newest first.
use Rattle.std.specs.Prelude.{◌≡◌, ℕ, ◌++◌, Bool, List, [], ◌∷◌, map}
use Rattle.dfr_channels.specs.Parts.{ScanParts}
use Rattle.dfr_channels.specs.declared.scan.Reading.{Reading}
use Rattle.dfr_detect.specs.Signals.{signal}
use Rattle.dfr_detect.specs.Watched.{Kept, kept, bit}
use Rattle.dfr_detect.specs.declared.settings.Settings.{Settings}

-- what a detector is asked to do, with which channels: their sum, or the first three as phases
pub record Wanted : Type 0 where
  pub settings : Settings
  pub channels : List ℕ

abbrev pub wanted : Settings → List ℕ → Wanted
wanted settings channels = record { settings = settings; channels = channels }

-- the detector's bit for the newest scan
abbrev pub fires : Wanted → List (List Reading) → Bool
fires w scans = bit w.settings (signal w.settings.condition w.channels scans)

-- what a detector keeps of a history
pub record Detected : Type 0 where
  pub channels : List ℕ
  pub kept : Kept

abbrev pub detected_by : List ℕ → Kept → Detected
detected_by channels kept = record { channels = channels; kept = kept }

abbrev pub detected : Wanted → List (List Reading) → Detected
detected w scans = detected_by w.channels (kept w.settings (signal w.settings.condition w.channels scans))

-- for every history of which `old` is kept, the bit is that of the next scan, and `new` is kept after it
abbrev pub IsDetection : Detected → List Reading → Bool → Detected → Type 0
IsDetection old readings b new = (w : Wanted) (scans : List (List Reading)) → detected w scans ≡ old → (fires w (readings ∷ scans) ≡ b) × (detected w (readings ∷ scans) ≡ new)

abbrev pub readings_of : ScanParts → List Reading
readings_of scan = scan.analog

-- the bits of scans that follow a history, each over all scans up to it
abbrev pub bits_over : Wanted → List (List Reading) → List (List Reading) → List Bool
bits_over w scans [] = []
bits_over w scans (readings ∷ later) = fires w (readings ∷ scans) ∷ bits_over w (readings ∷ scans) later

-- what several detectors keep of a history
abbrev pub all_detected : List Wanted → List (List Reading) → List Detected
all_detected ws scans = map (λ w. detected w scans) ws

-- their bits for the newest scan
abbrev pub all_fire : List Wanted → List (List Reading) → List Bool
all_fire ws scans = map (λ w. fires w scans) ws

-- for every history of which `old` is kept, the bits of the next scan stand after `before`, and `new` is kept after it
abbrev pub AreDetections : List Detected → List Reading → List Bool → List Bool → List Detected → Type 0
AreDetections old readings before after new =
    (ws : List Wanted) (scans : List (List Reading)) → all_detected ws scans ≡ old → (before ++ all_fire ws (readings ∷ scans) ≡ after) × (all_detected ws (readings ∷ scans) ≡ new)

-- for every history of which `old` is kept, these are the bits of the scans that follow
abbrev pub AreBits : Detected → List (List Reading) → List Bool → Type 0
AreBits old later bits = (w : Wanted) (scans : List (List Reading)) → detected w scans ≡ old → bits_over w scans later ≡ bits
