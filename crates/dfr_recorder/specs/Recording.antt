-- What is done to the open record.
use Rattle.std.specs.Prelude.{ℕ, ◌≡◌, ◌+◌, ◌-◌, Bool, false, if◌then◌else◌, ◌==◌, List, [], ◌∷◌, ◌++◌, length, Option, Some, None, option_map}
use Rattle.dfr_channels.specs.Parts.{ScanParts}
use Rattle.dfr_recorder.specs.declared.limits.Limits.{Limits}
use Rattle.dfr_recorder.specs.declared.record.Extent.{Extent}
use Rattle.dfr_recorder.specs.declared.marks.Newest.{Newest}
use Rattle.dfr_recorder.specs.declared.marks.Met.{Met}
use Rattle.dfr_recorder.specs.declared.marks.MarkedIf.{MarkedIf}
use Rattle.dfr_recorder.specs.Parts.{RecordParts}
use Rattle.dfr_recorder.specs.declared.step.Scanned.{Scanned}
use Rattle.dfr_recorder.specs.Marks.{mark_if, scanned}
use Rattle.dfr_recorder.specs.Kept.{Kept, latest}

abbrev pub extent_of : Option RecordParts → Option Extent
extent_of recording = option_map (λ (r : RecordParts). r.extent) recording

-- what a trigger meets
abbrev pub met_by : Limits → Newest → Option RecordParts → List RecordParts → Met
met_by limits newest recording shelf = record { newest = newest; full = length shelf == limits.shelf; extent = extent_of recording }

-- the open record, which now has this extent, or a new one with the scans of the ring that lie in it, where place n is the next
abbrev pub placed : Extent → ℕ → List ScanParts → Option RecordParts → RecordParts
placed e n ring None = record { extent = e; scans = latest (n - e.first) ring }
placed e n ring (Some r) = record { extent = e; scans = r.scans }

abbrev pub placed_if : Option Extent → ℕ → List ScanParts → Option RecordParts → Option RecordParts
placed_if extent n ring recording = option_map (λ e. placed e n ring recording) extent

-- one more scan
abbrev pub longer : ScanParts → RecordParts → RecordParts
longer scan r = record r { scans = r.scans ++ scan ∷ [] }

abbrev pub longer_if : ScanParts → Option RecordParts → Option RecordParts
longer_if scan recording = option_map (longer scan) recording

-- place n is the open record's last
abbrev pub ends_at : ℕ → Option RecordParts → Bool
ends_at n None = false
ends_at n (Some r) = r.extent.last == n

-- the open record, but where place n is its last
abbrev pub unless_last : ℕ → Option RecordParts → Option RecordParts
unless_last n None = None
unless_last n (Some r) = if r.extent.last == n then None else Some r

-- the open record where place n is its last
abbrev pub if_last : ℕ → Option RecordParts → List RecordParts
if_last n None = []
if_last n (Some r) = if r.extent.last == n then (r ∷ []) else []

-- what a trigger meets
abbrev pub met : Kept → Met
met k = met_by k.limits k.newest k.recording k.shelf

-- the open record after a trigger that leaves it this extent
abbrev pub after_mark : Kept → Option Extent → Option RecordParts
after_mark k extent = placed_if extent k.scans k.ring k.recording

-- after a scan, with the open record after it and before it is shelved
abbrev pub added : Kept → ScanParts → Newest → Option RecordParts → Kept
added k x newest recording = record k {
  scans = k.scans + 1;
  ring = latest (k.limits.pre + 1) (k.ring ++ x ∷ []);
  newest = newest;
  recording = unless_last k.scans recording;
  shelf = k.shelf ++ if_last k.scans recording;
}

-- what a scan does that fires this rule or none
abbrev pub fired_mark : Kept → Option ℕ → MarkedIf
fired_mark k rule = mark_if k.limits k.scans rule (met k)

-- after an accepted scan
abbrev pub accepted : Kept → ScanParts → MarkedIf → Kept
accepted k x m = added k x m.newest (longer_if x (after_mark k m.extent))

-- a scan that fires this rule or none is taken in, answered so, and `new` is kept then
abbrev pub IsAccepted : Kept → ScanParts → Option ℕ → Scanned → Kept → Type 0
IsAccepted old scan fired a new = (scanned old.scans (fired_mark old fired) ≡ a) × (accepted old scan (fired_mark old fired) ≡ new)
