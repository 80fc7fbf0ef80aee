use Rattle.std.proofs.Common.{◌≡◌, ◌∙◌, sym, Option, Some, None, append-nil}
use Rattle.dfr_capture.specs.Units.{UnitParts, first_unit}
use Rattle.dfr_capture.specs.Rows.{row_by}
use Rattle.dfr_capture.proofs.Firsts.{first_is, first_end}
use Rattle.dfr_capture.proofs.row.put_row.Goals as goal

pub returns-in-Some-clause-text : goal.returns-in-Some-clause-text
returns-in-Some-clause-text g c =
    let so = c.loop-sample.invariant in
    let e : first_unit c.args.scan.now ≡ Some c.in-Some.unit =
    sym so.first ∙ first_is c.args.scan.now c.loop-sample.sample-index _ _ c.loop-sample-test.true (sym c.sample-item.is ∙ c.in-Some.is) in
    rw (e, ← so.same) c.put_unit_row.ensures.text

pub returns-in-Some-clause-told : goal.returns-in-Some-clause-told
returns-in-Some-clause-told g c =
    let so = c.loop-sample.invariant in
    let e : first_unit c.args.scan.now ≡ Some c.in-Some.unit =
    sym so.first ∙ first_is c.args.scan.now c.loop-sample.sample-index _ _ c.loop-sample-test.true (sym c.sample-item.is ∙ c.in-Some.is) in
    rw (e, ← so.untold) c.put_unit_row.ensures.told

pub returns-clause-text : goal.returns-clause-text
unfolding row_by
returns-clause-text g c =
    let so = c.loop-sample.invariant in
    let e : first_unit c.args.scan.now ≡ None = sym so.first ∙ first_end c.args.scan.now c.loop-sample.sample-index c.loop-sample-test.false in
    rw (e, ← so.same) c.in_ok-put.ensures

pub returns-clause-told : goal.returns-clause-told
returns-clause-told g c =
    let so = c.loop-sample.invariant in
    let e : first_unit c.args.scan.now ≡ None = sym so.first ∙ first_end c.args.scan.now c.loop-sample.sample-index c.loop-sample-test.false in
    rw (e, append-nil) so.untold
