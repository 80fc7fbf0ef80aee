use Rattle.std.proofs.Common.{◌≡◌, Result, Ok, Err}
use Rattle.std.specs.Prelude.{IfOk, IfErr, MatchResult}
use Rattle.dfr_live.specs.Seen.{opening_of}
use Rattle.dfr_station.proofs.Failing.{told_fails, none_begun}
use Rattle.dfr_station.proofs.recording.record_beside.Goals as goal

passed_on : {T E F : Type 0} (a : Result T E) (b : Result T F) (P : T → Type 0) → IfOk a (λ x. b ≡ Ok x) → IfOk b P → IfOk a P
passed_on (Ok x) b P h known = rw h at known
passed_on (Err e) b P h known = tt

either : {T E : Type 0} (a : Result T E) (P : T → Type 0) (Q : E → Type 0) → IfOk a P → IfErr a Q → MatchResult a P Q
either (Ok x) P Q ok err = ok
either (Err e) P Q ok err = err

pub returns-then-is_err-clause-recorded : goal.returns-then-is_err-clause-recorded
returns-then-is_err-clause-recorded g c = none_begun g.K.Outlet.puts g.K.Outlet.lacks (opening_of c.args.recorder) c.args.kind _ _

pub returns-clause-recorded : goal.returns-clause-recorded
returns-clause-recorded g c =
    let report = c.record_with-report.result in
    let out = c.outcome_of.result in
    either out _ _ (passed_on out report _ c.outcome_of.ensures.made c.record_with-report.ensures.recorded)
    (told_fails _ _ g.K.Outlet.puts g.K.Outlet.lacks (opening_of c.args.recorder) c.args.kind _ _ _ out report c.outcome_of.ensures.told
    c.record_with-report.ensures.cause c.record_with-report.ensures.front)
