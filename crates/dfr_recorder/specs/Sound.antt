-- What holds of all that is kept of a history whose limits and rules fit its layout.
use Rattle.std.specs.Prelude.{ℕ, ◌≡◌, ◌+◌, ◌-◌, ◌<◌, ◌≤◌, min, length, Option, Some, None, IsTrue}
use Rattle.std.specs.List.{All}
use Rattle.dfr_channels.specs.Parts.{SetupParts, ScanParts}
use Rattle.dfr_channels.specs.Setups.{end_of_time}
use Rattle.dfr_channels.specs.Firing.{rules_fit}
use Rattle.dfr_recorder.specs.declared.limits.Limits.{Limits}
use Rattle.dfr_recorder.specs.declared.marks.Newest.{Newest}
use Rattle.dfr_recorder.specs.Parts.{RecordParts, IsWhole}
use Rattle.dfr_recorder.specs.Limits.{has_stamps}
use Rattle.dfr_recorder.specs.Own.{passes, has_instant, is_own}
use Rattle.dfr_recorder.specs.Kept.{Kept}

abbrev pub Passes : SetupParts → ScanParts → Type 0
Passes layout scan = IsTrue (passes layout scan)

-- after n scans, and triggers before place m, an open record has the scans from its first on, its last is to come and ends it, it
-- is not too long, no more records were opened than that, and the shelf, where so many wait, has room for it
pub record IsGrowing (layout : SetupParts) (limits : Limits) (n m : ℕ) (newest : Newest) (waiting : ℕ) (r : RecordParts) : Type 0 where
  pub begun : r.extent.first ≤ r.extent.trigger
  pub triggered : r.extent.trigger < m
  pub to_come : n ≤ r.extent.last
  pub short : r.extent.last < r.extent.first + limits.longest
  pub scans : length r.scans + r.extent.first ≡ n
  pub pass : All (Passes layout) r.scans
  pub few : newest.number ≤ m
  pub few_at_last : newest.number ≤ r.extent.last
  pub end : newest.end ≡ r.extent.last + 1
  pub room : waiting < limits.shelf

-- with none open the newest record has ended
abbrev pub IsOpenSound : SetupParts → Limits → ℕ → ℕ → Newest → ℕ → Option RecordParts → Type 0
IsOpenSound layout limits n m newest waiting None = (newest.number ≤ n - 1) × (waiting ≤ limits.shelf) × (newest.end ≤ n)
IsOpenSound layout limits n m newest waiting (Some r) = IsGrowing layout limits n m newest waiting r

pub record IsClosed (layout : SetupParts) (limits : Limits) (r : RecordParts) : Type 0 where
  pub whole : IsWhole r
  pub short : length r.scans ≤ limits.longest
  pub own : IsTrue (is_own layout r)

pub record IsSound (k : Kept) : Type 0 where
  pub stamped : IsTrue (has_stamps k.layout.rate k.limits.longest)
  pub timed : (i : ℕ) → i < k.scans → IsTrue (has_instant k.layout i)
  pub ring : length k.ring ≡ min k.scans (k.limits.pre + 1)
  pub pass : All (Passes k.layout) k.ring
  pub recording : IsOpenSound k.layout k.limits k.scans k.scans k.newest (length k.shelf) k.recording
  pub few : length k.shelf ≤ k.scans
  pub shelf : All (IsClosed k.layout k.limits) k.shelf

-- what holds of a recorder, whose ring and shelf have so many places
pub record IsSoundBody (k : Kept) (ring_places shelf_places : ℕ) : Type 0 where
  pub sound : IsSound k
  pub fit : IsTrue (rules_fit k.layout k.rules)
  pub early : k.scans ≤ end_of_time + 1
  pub ring : ring_places ≡ k.limits.pre + 1
  pub shelf : k.limits.shelf ≤ shelf_places
