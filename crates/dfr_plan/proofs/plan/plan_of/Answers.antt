use Rattle.dfr_plan.proofs.Gives.{plan_given, refused_given}
use Rattle.dfr_plan.proofs.plan.plan_of.Goals as goal

pub returns-in-Ok : goal.returns-in-Ok
returns-in-Ok g c = plan_given c.args.layout.now c.args.text.now c.in-Ok.draft c.finished.result c.in-Ok.ensures c.finished.ensures

pub returns-in-Err : goal.returns-in-Err
returns-in-Err g c = refused_given c.args.layout.now c.args.text.now c.in-Err.refused c.refusal_of.result c.in-Err.ensures c.refusal_of.ensures
