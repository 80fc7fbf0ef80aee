use Rattle.std.proofs.Common.{sym, ◌∙◌}
use Rattle.dfr_live.proofs.Remembered.{none-waits}
use Rattle.dfr_live.proofs.gone.Outgoing.is_up_to.Goals as goal

pub returns-clause-all : goal.returns-clause-all
returns-clause-all g c = λ yes. none-waits _ _ _ c.slots_beside.ensures.fifo (sym c.slots_beside.ensures.value ∙ c.if-slots_beside-ne0.false)
