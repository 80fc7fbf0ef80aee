use Rattle.std.proofs.Common.{ap, Ok}
use Rattle.dfr_live.specs.declared.report.LiveFault.{LiveFault}
use Rattle.dfr_live.specs.Causes.{AcquisitionFails}
use Rattle.dfr_live.proofs.Placing.{handed_up}
use Rattle.dfr_live.proofs.TakingIn.{gave_more, gave_fails}
use Rattle.dfr_live.proofs.acquire.acquire.Goals as goal

pub loop-preserved : goal.loop-preserved
loop-preserved g c =
    (tt, tt, gave_more g.F.Intake.gives g.F.Intake.loses c.args.feed.now c.loop.feed c.ask.new.feed c.loop.source c.ask.new.source c.loop.given c.ask.new.given c.loop.invariant.2 (c.in_ok-ask.ensures.on (ap Ok c.in-GoesOn.is)))

pub returns-in_err-ask-clause-fault : goal.returns-in_err-ask-clause-fault
returns-in_err-ask-clause-fault g c =
    let came = c.in_err-ask in
    handed_up c.from_residual.result came.field-0.0
    (λ (why : LiveFault). AcquisitionFails g.F.Intake.gives g.F.Intake.loses c.args.feed.now why c.ask.new.feed) c.from_residual.ensures.1
    (gave_fails g.F.Intake.gives g.F.Intake.loses c.args.feed.now c.loop.feed c.ask.new.feed c.loop.source c.loop.given came.field-0.0 c.loop.invariant.2 came.ensures.fault)
