-- What a live run writes: the line of a fault, or the report of the run.
use Rattle.std.specs.Prelude.{◌≡◌, ◌⊎◌, ℕ, ◌≤◌, List, [], length, map, filter, ⊤, Option, Some, None, Result, Ok, Err, Bool, true, false}
use Rattle.std.specs.Io.KnownBytes.{Appends}
use Rattle.dfr_recorder.specs.History.{Opening}
use Rattle.dfr_recorder.specs.Steps.{StepParts}
use Rattle.dfr_recorder.specs.Run.{followed_by}
use Rattle.comtrade_format.specs.declared.file.Kind.{Kind}
use Rattle.dfr_script.specs.Parts.{ScriptParts}
use Rattle.dfr_live.specs.Parts.{CallParts, EntryParts}
use Rattle.dfr_live.specs.Ends.{is_by}
use Rattle.dfr_live.specs.Devices.{PutsOf, taken_in, stops, GotAll, GotFront, SinkFailed}
use Rattle.dfr_live.specs.Gone.{records_taken}
use Rattle.dfr_live.specs.OneList.{OneList, step_from}
use Rattle.dfr_live.specs.Report.{Reports}
use Rattle.dfr_live.specs.declared.ended.EndFault.TheVariants as end_refused
use Rattle.dfr_live.specs.declared.report.LiveFault.{LiveFault}
use Rattle.dfr_live.specs.declared.report.LiveFault.TheVariants as fault
use Rattle.dfr_live.specs.declared.report.LiveReport.{LiveReport}
use Rattle.dfr_program.specs.declared.prepared.Fault.{Fault}
use Rattle.dfr_program.specs.FaultTexts.{fault_text}
use Rattle.dfr_program.specs.Plans.{scans_in, orders_in, call_at, calls_made}
use Rattle.dfr_program.specs.Replays.{IsOpenedBy}
use Rattle.dfr_program.specs.Reports.{report_text, run_word, run_fault_text}
use Rattle.dfr_program.specs.Recording.{IsOneThread}
use Rattle.dfr_program.specs.Writing.{Cut}

-- what a run is given, and what is known of its sink, over this opening: where the calls of these entries took the records, in this list
-- of steps; and where the run ended with this fault
pub record GivenParts : Type 1 where
  pub scans : List StepParts
  pub orders : List (ℕ × CallParts)
  pub Sinks : Opening → List EntryParts → List StepParts → Type 0
  pub Fails : Opening → LiveFault → Type 0

-- why a run over a script with these scans ended with a fault that is printed: a script's feed never fails, and its recorder can be opened; a
-- sink refused the files of a record, after those of others; a counter came to its end only if there are so many scans and losses; calls and
-- log do not agree; out of memory isn't printed
abbrev pub WhyFailed : {K : Type 0} → PutsOf K → Kind → K → K → List StepParts → Opening → LiveFault → Type 0
WhyFailed Puts kind old new scans o (fault.Feed code) = ⊥
WhyFailed Puts kind old new scans o (fault.Sink code) = SinkFailed Puts (λ s _ what t. stops s what t) o kind old code new
WhyFailed Puts kind old new scans o fault.Turns = ⊤
WhyFailed Puts kind old new scans o fault.Counter = 4_294_967_295 ≤ length scans
WhyFailed Puts kind old new scans o fault.Memory = ⊥
WhyFailed Puts kind old new scans o (fault.Open why) = ⊥
WhyFailed Puts kind old new scans o (fault.End why) = why ≡ end_refused.Mismatch

-- what the script gives it; the sink got the files of the records that the list of steps takes; where the run failed, those of some
-- records, and then at most those of one that it refused
abbrev pub given_by : {K : Type 0} → PutsOf K → Kind → K → K → ScriptParts → GivenParts
given_by Puts kind old new s = record {
  scans = scans_in s.commands;
  orders = orders_in 0 s.commands;
  Sinks = λ o made steps.
      GotAll Puts (λ s _ what t. stops s what t) o kind old made (Some (records_taken o (followed_by [] steps))) new;
  Fails = λ o why. WhyFailed Puts kind old new (scans_in s.commands) o why × GotFront Puts (λ s _ what t. stops s what t) o kind old new;
}

-- whatever a run over a script came to: the sink was not used; or it got the files of some records over the opening that the script says,
-- and then at most those of one that it refused
abbrev pub OnlyFront : {K : Type 0} → PutsOf K → Kind → ScriptParts → K → K → Type 0
OnlyFront Puts kind s old new =
    (new ≡ old) ⊎ ((o : Opening) × IsOpenedBy s o × GotFront Puts (λ s _ what t. stops s what t) o kind old new)

-- a report on a run in threads over this opening, of all that it was given: the source took in the steps of its scans, and none is left;
-- the calls of seat 0 are its orders, each at its place; all calls and scan steps are one list, and what is known of the sink holds with
-- it and the calls of seat 1; no finished record waits
pub record Ran {A : Type 0} (g : GivenParts) (o : Opening) (report : LiveReport A) : Type 0 where
  pub reports : Reports o report
  pub fed : taken_in reports.source ≡ g.scans
  pub none_left : report.ended.left.items ≡ []
  pub ordered : map call_at (filter (is_by 0) report.ended.log.items) ≡ calls_made report.stepped 0 g.orders
  pub one : OneList reports.inner reports.source reports.tokens report.ended
  pub handed_on : g.Sinks o (filter (is_by 1) report.ended.log.items) (map step_from one.list)
  pub none_waits : report.ended.recorder.shelf ≡ []

-- its text; its locked value, source and tokens are a recording as of one thread
pub record TellsReport (A : Type 0) (g : GivenParts) (o : Opening) (text : List ℕ) : Type 0 where
  pub report : LiveReport A
  pub ran : Ran g o report
  pub one : IsOneThread ran.reports.inner ran.reports.source ran.reports.tokens report.ended
  pub same : text ≡ report_text report

-- the line of this fault of a run
pub record TellsFault (why : LiveFault) (text : List ℕ) : Type 0 where
  pub word : List ℕ
  pub named : run_word why ≡ Some word
  pub same : text ≡ run_fault_text word

-- the line of the fault with which a run ended, and its cause
pub record TellsFailed (g : GivenParts) (o : Opening) (text : List ℕ) : Type 0 where
  pub why : LiveFault
  pub cause : g.Fails o why
  pub told : TellsFault why text

-- the text of what a run came to: its report, or the line of its fault
abbrev pub TellsCame : {A : Type 0} → Result (LiveReport A) LiveFault → Bool → List ℕ → Type 0
TellsCame (Ok report) done text = (done ≡ true) × (text ≡ report_text report)
TellsCame (Err why) done text = (done ≡ false) × TellsFault why text

-- the text of a run over this opening, and whether it was done
abbrev pub TellsOver : Type 0 → GivenParts → Opening → Bool → List ℕ → Type 0
TellsOver A g o true text = TellsReport A g o text
TellsOver A g o false text = TellsFailed g o text

-- over the opening that the script says
pub record TellsRun (A : Type 0) (g : GivenParts) (s : ScriptParts) (done : Bool) (text : List ℕ) : Type 0 where
  pub opening : Opening
  pub opened : IsOpenedBy s opening
  pub over : TellsOver A g opening done text

-- the text of a live run: where the script has a fault it is the fault's line, and nothing is run
abbrev pub TellsLive : Type 0 → GivenParts → Option Fault → ScriptParts → Bool → List ℕ → Type 0
TellsLive A g (Some fault) s done text = (done ≡ false) × (text ≡ fault_text fault)
TellsLive A g None s done text = TellsRun A g s done text

-- it is written
pub record PrintsLive (A : Type 0) (g : GivenParts) (fault : Option Fault) (s : ScriptParts) (done : Bool) (old new : Option (List ℕ)) : Type 0 where
  pub text : List ℕ
  pub tells : TellsLive A g fault s done text
  pub written : Appends old new text

-- a write failed, after a front of it
pub record CutsLive (A : Type 0) (g : GivenParts) (fault : Option Fault) (s : ScriptParts) (old new : Option (List ℕ)) : Type 0 where
  pub done : Bool
  pub text : List ℕ
  pub tells : TellsLive A g fault s done text
  pub cut : Cut old new text
