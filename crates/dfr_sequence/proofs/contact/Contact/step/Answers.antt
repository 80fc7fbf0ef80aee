use Rattle.dfr_sequence.proofs.Steps.{stepped}
use Rattle.dfr_sequence.proofs.contact.Contact.step.Goals as goal

pub returns : goal.returns
returns g c = stepped _ _ _ _ _ _ c.note.ensures.some c.note.ensures.value c.tell.ensures.told c.tell.ensures.kept
