-- What the header of a record tells.
use Rattle.std.specs.Prelude.{ℕ, ℤ, List, length, Bool, true, false, Option, Some, None, option_map, option_and_then}
use Rattle.comtrade_format.specs.declared.file.Kind.{Kind}
use Rattle.dfr_channels.specs.Parts.{SetupParts}
use Rattle.dfr_channels.specs.Scans.{instant_of}
use Rattle.dfr_channels.specs.declared.rule.Rule.{Rule}
use Rattle.dfr_header.specs.Headers.{HeaderParts}
use Rattle.dfr_header.specs.Rows.{rows_without_samples}
use Rattle.dfr_header.specs.declared.clock.Clock.{Clock}
use Rattle.dfr_header.specs.declared.clock.Dates.{Dates}
use Rattle.dfr_header.specs.declared.clock.Dates.TheVariants.{Rate}
use Rattle.dfr_recorder.specs.declared.record.Extent.{Extent}
use Rattle.dfr_station.specs.Names.{trigger_shown}
use Rattle.dfr_station.specs.declared.event.ClockState.{ClockState}
use Rattle.dfr_station.specs.declared.event.Followed.{Followed}
use Rattle.dfr_station.specs.declared.heading.About.{About}
use Rattle.dfr_station.specs.declared.headers.Sources.{Sources}
use Rattle.dfr_station.specs.declared.shown.Redated.{Redated}

-- the instant of a record's first scan as it is shown
abbrev pub first_shown : SetupParts → Option Redated → Extent → Option ℤ
first_shown layout None extent = instant_of layout extent.first
first_shown layout (Some r) extent = Some r.is.first

-- how the clock is followed, and how it stands to the scans
abbrev pub clock_of : ClockState → Clock
clock_of s = record {
  ahead = s.ahead;
  offset = option_map (λ (f : Followed). f.offset) s.followed;
  drift = option_and_then (λ (f : Followed). f.drift) s.followed;
}

-- what gave a record its instants: the rate, unless it has a date; then the converter if it told the time, or the clock that was followed
abbrev pub dates_of : Sources → Option Redated → Bool → Dates
dates_of s None told = Rate
dates_of s (Some r) true = s.told
dates_of s (Some r) false = s.followed

-- the header of a record whose data file is this one
abbrev pub header_of : (program version : List ℕ) → Sources → SetupParts → Option (List Rule) → About → List ℕ → HeaderParts
header_of program version sources layout rules about dat = record {
  program = program;
  version = version;
  layout = layout;
  rules = rules;
  extent = about.extent;
  first = first_shown layout about.redated about.extent;
  trigger = trigger_shown layout about.redated about.extent;
  kind = about.kind;
  empty = rows_without_samples about.kind (length layout.analog) (length layout.status) dat;
  is_cut = about.is_cut;
  dates = dates_of sources about.redated about.is_told;
  clock = option_map clock_of about.clock;
}
