-- The files of a record whose trigger has a date: those of the record itself, but as if scan 0 had been at another instant.
use Rattle.std.specs.Prelude.{◌≡◌, ◌⊎◌, ℕ, ℤ, pos, ◌+ℤ◌, ◌-◌, ◌||◌, nat_lt, if◌then◌else◌, Bool, true, false, List, ◌++◌, length, take, Option, Some, None, option_map, option_and_then}
use Rattle.std.specs.List.{flat_map}
use Rattle.comtrade_format.specs.Cfg.{last_lines}
use Rattle.comtrade_format.specs.Lines.{line}
use Rattle.comtrade_format.specs.Shape.{is_writable}
use Rattle.comtrade_format.specs.declared.file.Kind.{Kind}
use Rattle.comtrade_write.specs.OfRecord.{whole}
use Rattle.dfr_channels.specs.Parts.{SetupParts}
use Rattle.dfr_channels.specs.Scans.{micros, instant_of, within_time}
use Rattle.dfr_channels.specs.Setups.{end_of_time}
use Rattle.dfr_clock.specs.Dating.{Kept, date_of}
use Rattle.dfr_clock.specs.declared.reading.Reading.{Reading}
use Rattle.dfr_live.specs.Devices.{FilesParts, files_of}
use Rattle.dfr_recorder.specs.Parts.{RecordParts}
use Rattle.dfr_recorder.specs.declared.record.Extent.{Extent}
use Rattle.dfr_station.specs.declared.shown.Shown.{Shown}
use Rattle.dfr_station.specs.declared.shown.Redated.{Redated}

-- ---- the start

-- as if scan 0 had been at this instant
abbrev pub starting : ℕ → SetupParts → SetupParts
starting start layout = record layout { start = pos start }

-- an instant that a file can show
abbrev pub writable : Option ℤ → Option ℤ
writable None = None
writable (Some instant) = if is_writable instant then Some instant else None

abbrev pub shown_at : Option ℤ → Option ℤ → Option Shown
shown_at first trigger = option_and_then (λ (x : ℤ). option_map (λ (y : ℤ). record { first = x; trigger = y }) trigger) first

-- the instants that the files of a record show; None where they have none
abbrev pub shown_under : SetupParts → Extent → Option Shown
shown_under layout extent = shown_at (writable (instant_of layout extent.first)) (writable (instant_of layout extent.trigger))

-- from one way to show a record to another, if both can be shown
abbrev pub change_of : ℕ → Option Shown → Option Shown → Option Redated
change_of start was is = option_and_then (λ (x : Shown). option_map (λ (y : Shown). record { start = start; was = x; is = y }) is) was

-- How a record is shown whose trigger has this date: as if scan 0 had been earlier than the date by the time up to the trigger. None, so as by
-- the set-up, where that would be before 1970, or where one of its instants can't be shown.
abbrev pub redated_by : SetupParts → Extent → ℕ → Option Redated
redated_by layout extent date =
    let start = date - micros layout.rate extent.trigger in
    if nat_lt date (micros layout.rate extent.trigger) || nat_lt end_of_time date then None
    else change_of start (shown_under layout extent) (shown_under (starting start layout) extent)

-- the layout under which a record is shown
abbrev pub layout_under : SetupParts → Option Redated → SetupParts
layout_under layout None = layout
layout_under layout (Some r) = starting r.start layout

-- the clock is followed from a first reading that counts a scan
abbrev pub is_followed : Option Reading → Bool
is_followed None = false
is_followed (Some r) = nat_lt 0 r.scans

-- ---- what a station shows

-- what the files of a station are made by: the layout of its set-up, their kind, and whether the clock dates them
pub record Dating : Type 0 where
  pub layout : SetupParts
  pub kind : Kind
  pub by_clock : Bool

-- How a station shows a record: as by the set-up, or where the clock dates records, by a date. If there is no memory to change the files, it is
-- as by the set-up, too. Which date that is isn't stated here: it comes from a timebase under a lock.
abbrev pub ShowsBy : Bool → SetupParts → Extent → Option Redated → Type 0
ShowsBy false layout extent r = r ≡ None
ShowsBy true layout extent r = (r ≡ None) ⊎ ((date : ℕ) × (r ≡ redated_by layout extent date))

abbrev pub Shows : Dating → Extent → Option Redated → Type 0
Shows d extent r = ShowsBy d.by_clock d.layout extent r

-- files of whatever record, as they are under that layout
pub record IsShown (d : Dating) (r : Option Redated) (files shown : FilesParts) : Type 0 where
  pub same : (taken : RecordParts) → files ≡ files_of d.layout d.kind taken → shown ≡ files_of (layout_under d.layout r) d.kind taken

-- how the record is shown that is open at the end: by the date that this timebase gives, if there is one
abbrev pub last_shown : Option Kept → SetupParts → Extent → Option Redated
last_shown None layout extent = None
last_shown (Some t) layout extent = redated_by layout extent (date_of t extent.trigger)

-- ---- how the files are changed

-- what is shown at this rate if scan 0 was at this instant
abbrev pub instant_from : ℕ → ℕ → ℕ → Option ℤ
instant_from rate start k = within_time (pos start +ℤ pos (micros rate k))

abbrev pub shown_from : ℕ → ℕ → Extent → Option Shown
shown_from rate start extent = shown_at (writable (instant_from rate start extent.first)) (writable (instant_from rate start extent.trigger))

-- the instants that are shown before and after the change
abbrev pub Changes : SetupParts → Extent → Redated → Type 0
Changes layout extent r = (shown_under layout extent ≡ Some r.was) × (shown_under (starting r.start layout) extent ≡ Some r.is)

-- both instants are of the years that a file can show
abbrev pub AreWritable : Shown → Type 0
AreWritable s = (is_writable s.first ≡ true) × (is_writable s.trigger ≡ true)

-- the last lines of a configuration file, from the instants on
abbrev pub last_text : Kind → Shown → List ℕ
last_text kind s = flat_map line (last_lines s.first s.trigger kind (whole 1))

-- a text with another ending
abbrev pub with_ending : List ℕ → List ℕ → List ℕ → List ℕ
with_ending text was is = take (length text - length was) text ++ is

-- a configuration file after the change
abbrev pub changed_cfg : Kind → Redated → List ℕ → List ℕ
changed_cfg kind r cfg = with_ending cfg (last_text kind r.was) (last_text kind r.is)
