use Rattle.dfr_program.proofs.Living.{prints_live}
use Rattle.dfr_program.proofs.live.live_of.Goals as goal

pub returns-clause-printed : goal.returns-clause-printed
returns-clause-printed g c =
    prints_live _ _ _ _ c.in_ok-told.told.done c.in_ok-told.told.text.items c.deref.result.now _ _ c.in_ok-told.ensures.text c.deref.ensures.value c.in_ok-write_out.ensures.all
