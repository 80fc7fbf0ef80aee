-- The text of a header.
use Rattle.std.specs.Prelude.{ℕ, ℤ, Bool, true, false, List, [], ◌++◌, length, codes, Option, Some, None}
use Rattle.comtrade_format.specs.declared.file.Kind.{Kind}
use Rattle.comtrade_format.specs.declared.file.Kind.TheVariants.{Ascii, Binary}
use Rattle.comtrade_values.specs.Written.{decimal_text}
use Rattle.dfr_channels.specs.Parts.{SetupParts}
use Rattle.dfr_channels.specs.declared.rule.Rule.{Rule}
use Rattle.dfr_recorder.specs.declared.record.Cause.{Cause}
use Rattle.dfr_recorder.specs.declared.record.Extent.{Extent}
use Rattle.dfr_header.specs.Lines.{line_end, text_line, number_line, scan_line, seconds_line, parts_line}
use Rattle.dfr_header.specs.Rules.{why_text, rules_text}
use Rattle.dfr_header.specs.declared.clock.Clock.{Clock}
use Rattle.dfr_header.specs.declared.clock.Dates.{Dates}
use Rattle.dfr_header.specs.declared.clock.Dates.TheVariants.{Rate, Wall, Converter, Global, Capture}

-- What a header tells of a record: the program that wrote it; the set-up, and the rules in force at the trigger, where they are known; which
-- scans it has, and the instants of the first and of the trigger, as its configuration file has them; the form of its data; how many scans have
-- no sample, where that is known; whether the input ended before the record did; what gave it its instants; how the clock and the scans stood
-- to each other, where that is known.
pub record HeaderParts : Type 0 where
  pub program : List ℕ
  pub version : List ℕ
  pub layout : SetupParts
  pub rules : Option (List Rule)
  pub extent : Extent
  pub first : Option ℤ
  pub trigger : Option ℤ
  pub kind : Kind
  pub empty : Option ℕ
  pub is_cut : Bool
  pub dates : Dates
  pub clock : Option Clock

-- ---- who recorded it, and with which program

unfoldable pub program_text : List ℕ → List ℕ → List ℕ
program_text program version = codes "Written by: " ++ program ++ codes " " ++ version ++ line_end

unfoldable pub names_text : SetupParts → List ℕ
names_text s = text_line (codes "Station: ") s.station ++ text_line (codes "Recording device: ") s.device

unfoldable pub station_text : HeaderParts → List ℕ
station_text h = names_text h.layout ++ program_text h.program h.version

-- ---- the record

abbrev pub trigger_text : SetupParts → Option (List Rule) → Cause → List ℕ
trigger_text s rules cause = codes "Trigger: " ++ why_text s rules cause ++ line_end

-- why there is a record
abbrev pub reason_text : SetupParts → Option (List Rule) → Extent → List ℕ
reason_text s rules e = number_line (codes "Record: ") e.number [] ++ trigger_text s rules e.cause

-- which scans it has, counted from 0 at the start of the recording
unfoldable pub scans_text : Extent → Option ℤ → Option ℤ → List ℕ
scans_text e first trigger =
    scan_line (codes "First scan: ") e.first first ++ scan_line (codes "Trigger at scan: ") e.trigger trigger
    ++ scan_line (codes "Last scan: ") e.last None

-- what of them is missing
abbrev pub empty_text : Option ℕ → List ℕ
empty_text None = []
empty_text (Some n) = number_line (codes "Scans lost, or without a sample: ") n []

abbrev pub cut_text : Bool → List ℕ
cut_text true = codes "The input ended before the record did.\r\n"
cut_text false = []

unfoldable pub record_text : HeaderParts → List ℕ
record_text h =
    reason_text h.layout h.rules h.extent ++ scans_text h.extent h.first h.trigger ++ empty_text h.empty ++ cut_text h.is_cut

-- ---- how it was made

unfoldable pub rate_text : SetupParts → List ℕ
rate_text s = number_line (codes "Sampling rate: ") s.rate (codes " scans a second")

unfoldable pub frequency_text : SetupParts → List ℕ
frequency_text s = codes "Line frequency: " ++ decimal_text s.line_freq ++ codes " Hz\r\n"

unfoldable pub analogs_text : SetupParts → List ℕ
analogs_text s = number_line (codes "Analogue channels: ") (length s.analog) []

unfoldable pub statuses_text : SetupParts → List ℕ
statuses_text s = number_line (codes "Status channels: ") (length s.status) []

abbrev pub data_text : Kind → List ℕ
data_text Ascii = codes "Data: ASCII\r\n"
data_text Binary = codes "Data: BINARY\r\n"

unfoldable pub setup_text : HeaderParts → List ℕ
setup_text h =
    rate_text h.layout ++ frequency_text h.layout ++ analogs_text h.layout ++ statuses_text h.layout ++ data_text h.kind

abbrev pub dates_text : Dates → List ℕ
dates_text Rate = codes "Instants: of the first scan of the recording and the sampling rate\r\n"
dates_text Wall = codes "Instants: of the wall clock, which was followed\r\n"
dates_text Converter = codes "Instants: of the converter, which told the time\r\n"
dates_text Global = codes "Instants: of the global clock of the streams (smpSynch 2)\r\n"
dates_text Capture = codes "Instants: of the time stamps of the capture\r\n"

abbrev pub offset_text : Option ℤ → List ℕ
offset_text None = []
offset_text (Some micros) = seconds_line (codes "Offset, later than by the rate: ") micros

abbrev pub drift_text : Option ℤ → List ℕ
drift_text None = []
drift_text (Some parts) = parts_line (codes "Drift, faster than the rate: ") parts

unfoldable pub ahead_text : ℤ → List ℕ
ahead_text micros = seconds_line (codes "Wall clock, ahead of the rate: ") micros

-- how the clock and the scans stood to each other when the header was made
unfoldable pub state_text : Clock → List ℕ
state_text c = ahead_text c.ahead ++ (offset_text c.offset ++ drift_text c.drift)

abbrev pub clock_text : Option Clock → List ℕ
clock_text None = []
clock_text (Some c) = state_text c

unfoldable pub making_text : HeaderParts → List ℕ
making_text h =
    setup_text h ++ line_end ++ (dates_text h.dates ++ clock_text h.clock) ++ line_end ++ rules_text h.layout h.rules

-- ---- all of it

unfoldable pub header_text : HeaderParts → List ℕ
header_text h = station_text h ++ line_end ++ record_text h ++ line_end ++ making_text h
