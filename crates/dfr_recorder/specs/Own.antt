-- Which records match a layout.
use Rattle.std.specs.Prelude.{ℕ, Bool, ◌&&◌, length, is_some, is_none}
use Rattle.std.specs.List.{list_all}
use Rattle.dfr_channels.specs.Parts.{SetupParts, ScanParts}
use Rattle.dfr_channels.specs.Scans.{scan_fault, instant_of}
use Rattle.dfr_recorder.specs.Limits.{has_stamps}
use Rattle.dfr_recorder.specs.Parts.{RecordParts}

abbrev pub passes : SetupParts → ScanParts → Bool
passes layout scan = is_none (scan_fault layout scan)

-- scan k has an instant
abbrev pub has_instant : SetupParts → ℕ → Bool
has_instant layout k = is_some (instant_of layout k)

-- its scans pass the layout's check, the last of them has an instant, and the last row's time stamp can be written
unfoldable pub is_own : SetupParts → RecordParts → Bool
is_own layout r = list_all (passes layout) r.scans && has_instant layout r.extent.last && has_stamps layout.rate (length r.scans)
