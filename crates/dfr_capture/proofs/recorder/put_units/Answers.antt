use Rattle.dfr_capture.proofs.Feeding.{none_yet, one_more, all_fed}
use Rattle.dfr_capture.proofs.recorder.put_units.Goals as goal

pub loop-asdu-init : goal.loop-asdu-init
loop-asdu-init g c = λ us w. none_yet c.args.plan.now c.args.origin.now c.args.asdus.now us c.args.feed.now c.args.bay.now w

pub loop-asdu-preserved : goal.loop-asdu-preserved
loop-asdu-preserved g c = λ us w.
    one_more c.args.plan.now c.args.origin.now c.args.asdus.now c.loop-asdu.asdu-index _ us c.args.feed.now c.loop-asdu.feed _ c.loop-asdu.bay _ c.loop-asdu-test.true
    (c.loop-asdu.invariant us w) c.in_ok-put_unit.ensures

pub returns : goal.returns
returns g c = λ us w.
    all_fed c.args.plan.now c.args.origin.now c.args.asdus.now c.loop-asdu.asdu-index us c.args.feed.now c.loop-asdu.feed c.loop-asdu.bay c.loop-asdu-test.false (c.loop-asdu.invariant us w)
