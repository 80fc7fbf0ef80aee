use Rattle.std.proofs.Common.{inr, refl}
use Rattle.dfr_station.proofs.run.all_made.Goals as goal

pub returns-in-Ok-clause-all : goal.returns-in-Ok-clause-all
returns-in-Ok-clause-all g c = (c.in-Ok.is, c.if-is_heard_by.ensures.all refl)

pub returns-in-Ok-2-clause-failed : goal.returns-in-Ok-2-clause-failed
returns-in-Ok-2-clause-failed g c = inr (refl, (c.in-Ok-2.field-0, c.in-Ok-2.is))
