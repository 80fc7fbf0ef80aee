use Rattle.std.proofs.Common.{◌≡◌, ◌∙◌, ◌++◌, ap, List, length, arith, Option}
use Rattle.dfr_capture.specs.Units.{UnitParts}
use Rattle.dfr_capture.specs.Rows.{row, missing_in, each_scan}
use Rattle.dfr_capture.proofs.Scans.{kept_streams}
use Rattle.dfr_capture.proofs.Feeding.{feeds_unit_of}
use Rattle.dfr_capture.proofs.recorder.put_unit_of.Goals as goal

pub returns-then-stream-streams : goal.returns-then-stream-streams
returns-then-stream-streams g c = λ us w.
    absurd (omega (arith, kept_streams c.args.plan.now.settings (length c.args.plan.now.streams) us c.args.bay.now w, c.streams.ensures, c.if-stream-streams.true, c.requires))

pub returns : goal.returns
returns g c =
    let n = length c.args.plan.now.streams in
    let d = c.deref.ensures.value in
    let l = c.in_ok-put_scans.ensures.lines ∙ ap (λ (xs : List (Option UnitParts)). c.feed.inside.lines.items ++ each_scan (row c.args.plan.now) n xs) d in
    let m = c.in_ok-put_scans.ensures.missing ∙ ap (λ (xs : List (Option UnitParts)). c.feed.inside.missing.items ++ each_scan (missing_in c.args.plan.now) n xs) d in
    rw (← c.feed.view_is)
    (λ us w. feeds_unit_of c.args.plan.now us c.args.origin.now c.args.asdu.now c.args.stream c.in_ok-unit.unit c.in_ok-arrival.arrival _ _ c.args.bay.now _ _ _
    c.put_scans.ensures.some w c.in_ok-unit.ensures c.new-scans.ensures.items c.in_ok-arrival.ensures.ok l m c.in_ok-put_arrival.ensures)
