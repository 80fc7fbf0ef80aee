-- A recording of a list of scans in three threads, and the list of files that it leaves.
use Rattle.std.specs.Prelude.{◌≡◌, ℕ, ◌≤◌, List, [], ◌∷◌, ◌++◌, map, filter, ⊤, Option, Some, None, Result, Ok, Err, All}
use Rattle.std.specs.Vec.Iter.{into_iter_items}
use Rattle.dfr_channels.specs.Parts.{ScanParts}
use Rattle.dfr_recorder.specs.Parts.{RecordParts}
use Rattle.dfr_recorder.specs.Steps.{StepParts}
use Rattle.dfr_recorder.specs.Steps as step
use Rattle.dfr_recorder.specs.declared.record.Extent.{Extent}
use Rattle.dfr_recorder.specs.History.{Opening}
use Rattle.dfr_recorder.specs.Run.{followed_by}
use Rattle.comtrade_format.specs.declared.file.Kind.{Kind}
use Rattle.dfr_live.specs.Ends.{is_by}
use Rattle.dfr_live.specs.OneList.{Origin, OneList, step_from}
use Rattle.dfr_live.specs.Gone.{records_taken}
use Rattle.dfr_live.specs.Closed.{extents_closed}
use Rattle.dfr_live.specs.Devices.{FilesParts, files_of, taken_in, extents_taken, IsTaken, IsTake}
use Rattle.dfr_live.specs.Report.{Reports}
use Rattle.dfr_live.specs.Causes.{HasTokens}
use Rattle.dfr_live.specs.declared.station.Order.{Order}
use Rattle.dfr_live.specs.declared.report.LiveFault.{LiveFault}
use Rattle.dfr_live.specs.declared.report.LiveFault.TheVariants as fault
use Rattle.dfr_live.specs.declared.report.LiveReport.{LiveReport}
use Rattle.examples.specs.declared.listed.ListFeed.{ListFeed}
use Rattle.examples.specs.declared.listed.ListSink.{ListSink}
use Rattle.examples.specs.declared.listed.Pair.{Pair}

-- the step of what stands in the list: a scan's, or a lost one's
abbrev pub step_of : Option ScanParts → StepParts
step_of (Some scan) = step.Scan scan
step_of None = step.Lost

-- the steps that a feed hasn't given yet
abbrev pub steps_left : {A : Type 0} → ListFeed A → List StepParts
steps_left s = map step_of (into_iter_items s.rest)

-- no order is ever handed out
abbrev pub HandsNone : {A : Type 0} → Option (ℕ × Order A) → Type 0
HandsNone (Some order) = ⊥
HandsNone None = ⊤

abbrev pub files_in : {A : Type 0} → Pair A → FilesParts
files_in p = record { extent = p.extent; cfg = p.cfg.items; dat = p.dat.items }

-- the files that a sink has kept, in order
abbrev pub kept : {A : Type 0} → ListSink A → List FilesParts
kept s = map files_in s.pairs.items

-- the files are kept after the others; or there is no memory for them, and the list is as it was
abbrev pub Keeps : List FilesParts → FilesParts → Result (Unit {0}) ℕ → List FilesParts → Type 0
Keeps old files (Ok done) new = new ≡ old ++ files ∷ []
Keeps old files (Err code) new = (code ≡ 1) × (new ≡ old)

-- the records that the one-thread recorder takes along a list, in order
abbrev pub records_in : Opening → List Origin → List RecordParts
records_in o list = records_taken o (followed_by [] (map step_from list))

abbrev pub extents : List RecordParts → List Extent
extents records = map (λ (r : RecordParts). r.extent) records

-- A run in threads over this opening took in exactly these steps, and none is left. Seat 0 made no call, and seat 1 only took. These files
-- are those of the records that the one list of steps takes, each once and in order; each matches the layout, and their extents are those
-- of all records that closed in that list
pub record IsRecorded (A : Type 0) (o : Opening) (kind : Kind) (steps : List StepParts) (files : List FilesParts) : Type 0 where
  pub report : LiveReport A
  pub reports : Reports o report
  pub one : OneList reports.inner reports.source reports.tokens report.ended
  pub fed : taken_in reports.source ≡ steps
  pub none_left : report.ended.left.items ≡ []
  pub no_orders : filter (is_by 0) report.ended.log.items ≡ []
  pub takes : All IsTake (filter (is_by 1) report.ended.log.items)
  pub taken : All (IsTaken o) (records_in o one.list)
  pub each : extents (records_in o one.list) ≡ extents_taken (filter (is_by 1) report.ended.log.items)
  pub same : files ≡ map (files_of o.layout kind) (records_in o one.list)
  pub none_waits : report.ended.recorder.shelf ≡ []
  pub all_closed : extents (records_in o one.list) ≡ extents_closed o (map step_from one.list)

-- how a run over so many steps can fail: a feed over a list never does, and the sink only for want of memory
abbrev pub CanFail : ℕ → LiveFault → Type 0
CanFail steps (fault.Feed code) = ⊥
CanFail steps (fault.Sink code) = code ≡ 1
CanFail steps fault.Turns = ⊤
CanFail steps fault.Counter = 4_294_967_295 ≤ steps
CanFail steps fault.Memory = ⊤
CanFail steps (fault.Open why) = ⊤
CanFail steps (fault.End why) = HasTokens why
