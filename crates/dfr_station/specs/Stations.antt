-- What a station did that ran to the end of its input.
use Rattle.std.specs.Prelude.{◌≡◌, ℕ, ◌-◌, ◌≤◌, List, [], map, Bool, false, Option, None}
use Rattle.rtrb.specs.Ring.{sent, known_free, received}
use Rattle.dfr_live.specs.Lane.{lane_in, lane_out}
use Rattle.std.specs.List.{All}
use Rattle.dfr_channels.specs.Parts.{SetupParts}
use Rattle.dfr_detect.specs.Detection.{Wanted, Detected, all_detected}
use Rattle.dfr_detect.specs.Lost.{Works}
use Rattle.dfr_recorder.specs.History.{Opening}
use Rattle.comtrade_format.specs.declared.file.Kind.{Kind}
use Rattle.dfr_live.specs.Devices.{taken_in}
use Rattle.dfr_live.specs.Report.{Recorded as RecordedLive}
use Rattle.dfr_live.specs.declared.ended.Ended.{Ended}
use Rattle.dfr_live.specs.declared.report.LiveReport.{LiveReport}
use Rattle.dfr_station.specs.Input.{reading_of}
use Rattle.dfr_station.specs.Acquiring.{Acquired, AcquisitionGives, AcquisitionLoses}
use Rattle.dfr_station.specs.Arrivals.{HandsNext}
use Rattle.dfr_station.specs.Desks.{DeskParts, DeskAsks, DeskHears, awaited}
use Rattle.dfr_station.specs.Hearing.{HeardAll}
use Rattle.dfr_station.specs.Storing.{StoresOf, Exporting, unasked, PutsPair, LacksPair}
use Rattle.dfr_station.specs.declared.intake.arrivals.Arrivals.{Arrivals}
use Rattle.dfr_station.specs.declared.intake.ended.Counts.{Counts}
use Rattle.dfr_station.specs.declared.parts.Parts.{Parts}
use Rattle.dfr_station.specs.declared.scans.LastGiven.TheVariants as given
use Rattle.dfr_station.specs.declared.station.Input.{Input}

-- no scan has come, and no order: before the first scan the contacts are in their normal states, and the detectors keep this
abbrev pub IsBegun : {C A : Type 0} → SetupParts → List Detected → (waits by_clock : Bool) → C → Acquired C A → Type 0
IsBegun layout detected waits by_clock incoming s =
    (s.incoming ≡ incoming) × (s.scans.waits ≡ waits) × (s.scans.by_clock ≡ by_clock)
    × (s.scans.layout ≡ layout) × (s.scans.came ≡ 0) × (s.scans.lost ≡ 0) × (s.scans.row ≡ 0)
    × (s.scans.last ≡ given.Nothing) × (s.scans.bits ≡ map (λ c. c.normal) layout.status) × (s.orders.items ≡ [])
    × (s.scans.detected ≡ detected)

-- the parts of a station before it runs: no scan was taken, and no order was put into the queue, which has 1,024 places, or taken off it
abbrev pub IsFresh : {A : Type 0} → SetupParts → Parts A → Type 0
IsFresh layout parts =
    (parts.filler.bits.items ≡ map (λ c. c.normal) layout.status) × (sent parts.orders.0 ≡ []) × (1_024 ≤ known_free parts.orders.0)
    × (received parts.orders.1 ≡ []) × (lane_in parts.orders.0 ≡ lane_out parts.orders.1)

-- what comes begins with these bytes, which were read before, and goes on with this input
abbrev pub Begins : {I A : Type 0} → SetupParts → Input → List ℕ → I → Arrivals I A → Type 0
Begins layout form bytes input s =
    (s.input ≡ input) × (s.cutter.layout.now ≡ layout) × (s.cutter.buffer ≡ bytes) × (s.ending ≡ None)
    × (reading_of s.cutter ≡ record { form = form; came = 0; lines = 0; owed = false; skipping = false; due = None; noisy = false })

-- A run from an input to a store. As `dfr_live` has it, over the three devices of a station: the acquisition gave a step for each scan that
-- came, one list has the steps of all, with the orders of the desk, which are all
-- that went into its queue, and the pair of each record went to the store or the record was counted.
-- So, where the detectors work and have seen no scan, each scan that came over the whole input, which has the channels `inputs`, is one step at
-- its place, or one counted loss. Behind its bits are those of the detectors: whatever they are asked to do, each bit is that of its definition
-- over all scans up to this one. What is left is what that run left, the counts are those of the devices, and the input and the store come back
-- as the devices left them. Where the clock dates records, the files are those of the records under the start of a date, or under the start of
-- the set-up; else under the start of the set-up.
--
-- Where the input waits, no scan is lost since the queue is full, and no step is made while the shelf is.
--
-- A scan may be lost for want of memory, as an allocation may fail at any time. So a station that loses each scan so, and says so, would
-- meet this, too.
pub record Ran {I A K : Type 0} (remaining : I → Option (List ℕ)) (Stores : StoresOf K) (o : Opening) (inputs : SetupParts) (detectors : List Detected) (kind : Kind) (has_operator waits by_clock : Bool) (incoming : Arrivals I A)
    (store : K) (ended : Ended A) (counts : Counts) (input_left : I) (store_left : K) : Type 0 where
  pub begun : Acquired (Arrivals I A) A
  pub over : Acquired (Arrivals I A) A
  pub opened : DeskParts A
  pub closed : DeskParts A
  pub exported : Exporting K
  pub report : LiveReport A
  pub begins : IsBegun inputs detectors waits by_clock incoming begun
  pub opens : (opened.taken ≡ []) × (opened.waits ≡ None) × (opened.has_operator ≡ has_operator) × (opened.shelf ≡ awaited waits o.limits.shelf)
  pub recorded : RecordedLive (AcquisitionGives (HandsNext remaining)) AcquisitionLoses DeskAsks DeskHears (PutsPair Stores)
      (λ s extent short t. LacksPair s short t) o kind
      (begun, opened, unasked o kind by_clock store) (over, closed, exported) report
  pub heard : (ws : List Wanted) → All Works ws → all_detected ws [] ≡ detectors → HeardAll remaining by_clock ws inputs begun (taken_in recorded.report.source) over
  pub ordered_all : closed.taken ≡ over.orders.items
  pub input_over : over.incoming.input ≡ input_left
  pub store_over : exported.store ≡ store_left
  pub same_end : ended ≡ report.ended
  pub all_scans : counts.scans ≡ over.scans.came
  pub all_lost : counts.lost ≡ over.scans.lost
  pub not_made : counts.left ≡ over.scans.came - report.stepped
  pub taken : counts.records ≡ exported.records
  pub given_up : counts.unwritten ≡ exported.unwritten
