use Rattle.std.proofs.Common.{length, map, refl, rules}
use Rattle.std.proofs.lemmas.List.{length-map}
use Rattle.dfr_live.specs.Seen.{opening_of}
use Rattle.examples.specs.Lists.{step_of, CanFail}
use Rattle.examples.proofs.Lists.{recorded, can-fail, handed-up, opened-up}
use Rattle.examples.proofs.listed.record_list.Goals as goal

pub returns-clause-files : goal.returns-clause-files
returns-clause-files g c =
    recorded (opening_of c.args.recorder) c.args.kind (map step_of c.args.scans.items) _ c.run_live.new.feed _ c.run_live.new.orders _ c.run_live.new.sink _
    c.in_ok-run_live.ensures.recorded (search rules) (search rules)

pub returns-in_err-run_live-clause-fault : goal.returns-in_err-run_live-clause-fault
returns-in_err-run_live-clause-fault g c =
    let came = c.in_err-run_live in
    handed-up c.from_residual.result came.field-0.0 (CanFail (length c.args.scans.items)) c.from_residual.ensures.1
    (can-fail (opening_of c.args.recorder) c.args.kind _ (map step_of c.args.scans.items) _ c.run_live.new.feed _ c.run_live.new.orders _ c.run_live.new.sink came.field-0.0
    (length c.args.scans.items) (search rules) (length-map c.args.scans.items step_of) came.ensures.cause)

pub returns-in_err-run_live-clause-open : goal.returns-in_err-run_live-clause-open
returns-in_err-run_live-clause-open g c =
    let came = c.in_err-run_live in
    opened-up _ c.from_residual.result came.field-0.0 _ refl c.from_residual.ensures.1 came.ensures.open
