use Rattle.std.proofs.Common.{◌∙◌}
use Rattle.dfr_live.specs.Seen.{opening_of}
use Rattle.dfr_program.specs.Live.{given_by}
use Rattle.dfr_program.proofs.Fed.{ran, all_failed}
use Rattle.dfr_program.proofs.Living.{if_ok_map, tells_over}
use Rattle.dfr_program.proofs.live.run_plan.Goals as goal

pub returns-clause-text : goal.returns-clause-text
returns-clause-text g c =
    let came = c.run_live-came in
    let o = opening_of c.args.plan.recorder in
    if_ok_map _ _ c.told_run.result c.told_run.ensures.text (λ told tells s new scans orders.
    let all = given_by g.K.Sink.puts c.args.kind c.args.sink.now came.new.sink s in
    tells_over g.row.A.Denot all o came.result told.done told.text.items c.told_run.ensures.law
    (if_ok_map _ _ came.result came.ensures.recorded (λ r recorded.
    ran g.K.Sink.puts c.args.kind o s c.of-feed.result came.new.feed c.of-orders.result came.new.orders
    c.args.sink.now came.new.sink r (c.of-feed.ensures ∙ scans) (c.of-orders.ensures ∙ orders) recorded))
    (all_failed g.K.Sink.puts c.args.kind o s _ c.of-feed.result came.new.feed c.of-orders.result came.new.orders
    c.args.sink.now came.new.sink came.result new (c.of-feed.ensures ∙ scans) came.ensures.cause came.ensures.front)
    tells)
