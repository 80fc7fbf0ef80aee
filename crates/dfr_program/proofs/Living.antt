-- The recorder that a script makes, in a live run.
use Rattle.std.proofs.Common.{◌≡◌, Bool, List, ℕ, Option, Some, None, Result, Ok, Err, inr, sym, subst}
use Rattle.std.specs.Prelude.{IfOk, IfErr}
use Rattle.std.specs.Io.KnownBytes.{Appends}
use Rattle.dfr_recorder.specs.Kept.{Kept}
use Rattle.dfr_script.specs.Parts.{ScriptParts}
use Rattle.dfr_live.specs.Seen.{InnerParts, SourceParts, TokenParts, opening_of}
use Rattle.dfr_live.specs.Ends.{Ends}
use Rattle.dfr_program.specs.Recording.{IsOneThread}
use Rattle.dfr_live.specs.Report.{Reports}
use Rattle.dfr_live.specs.declared.report.LiveFault.{LiveFault}
use Rattle.dfr_live.specs.declared.report.LiveReport.{LiveReport}
use Rattle.dfr_recorder.specs.History.{Opening}
use Rattle.dfr_program.specs.declared.prepared.Fault.{Fault}
use Rattle.dfr_program.specs.Faults.{IsMadeOf}
use Rattle.comtrade_format.specs.declared.file.Kind.{Kind}
use Rattle.dfr_live.specs.Devices.{PutsOf, stops, GotFront}
use Rattle.dfr_program.specs.Live.{GivenParts, Ran, TellsCame, TellsOver, TellsLive, PrintsLive, OnlyFront}
use Rattle.dfr_program.specs.Reports.{run_word}

pub tells_run : (A : Type 0) (g : GivenParts) (f : Option Fault) (s : ScriptParts) (k : Kept) (done : Bool) (text : List ℕ) → f ≡ None → IsMadeOf s k → TellsOver A g (opening_of k) done text → TellsLive A g f s done text
tells_run A g f s k done text q made over =
    subst (λ (v : Option Fault). TellsLive A g v s done text) (sym q)
    (record { opening = opening_of k; opened = record { layout = made.layout; limits = made.limits; rules = made.rules }; over = over })

pub only_front : {K : Type 0} (Puts : PutsOf K) (kind : Kind) (s : ScriptParts) (k : Kept) (old new : K) → IsMadeOf s k
    → GotFront Puts (λ s _ what t. stops s what t) (opening_of k) kind old new → OnlyFront Puts kind s old new
only_front Puts kind s k old new made front = inr (opening_of k, record { layout = made.layout; limits = made.limits; rules = made.rules }, front)

pub if_ok_map : {U E : Type 0} (P Q : U → Type 0) (r : Result U E) → IfOk r P → ((u : U) → P u → Q u) → IfOk r Q
if_ok_map P Q (Ok u) p f = f u p
if_ok_map P Q (Err e) p f = tt

-- the text of what a run came to, with the law of its report and all that it was given, or the cause of its fault
pub tells_over : (A : Type 0) (g : GivenParts) (o : Opening) (came : Result (LiveReport A) LiveFault) (done : Bool) (text : List ℕ)
    → IfOk came (λ r. (x : InnerParts) (source : SourceParts) (tokens : List TokenParts) → Ends x source tokens r.ended → IsOneThread x source tokens r.ended)
    → IfOk came (λ r. Ran g o r) → IfErr came (λ why. (word : List ℕ) → run_word why ≡ Some word → g.Fails o why) → TellsCame came done text → TellsOver A g o done text
tells_over A g o (Ok r) done text law ran fails tells =
    let reports : Reports o r = ran.reports in
    subst (λ (v : Bool). TellsOver A g o v text) (sym tells.0) (record { report = r; ran = ran; one = law reports.inner reports.source reports.tokens reports.ends; same = tells.1 })
tells_over A g o (Err why) done text law ran fails tells =
    subst (λ (v : Bool). TellsOver A g o v text) (sym tells.0) (record { why = why; cause = fails tells.1.word tells.1.named; told = tells.1 })

pub prints_live : (A : Type 0) (g : GivenParts) (f : Option Fault) (s : ScriptParts) (done : Bool) (text bytes : List ℕ) (a b : Option (List ℕ)) → TellsLive A g f s done text → bytes ≡ text → Appends a b bytes → PrintsLive A g f s done a b
prints_live A g f s done text bytes a b tells q h = record { text = text; tells = tells; written = subst (λ v. Appends a b v) q h }
