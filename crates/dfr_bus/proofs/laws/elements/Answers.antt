use Rattle.dfr_bus.proofs.ElementsRead.{element_means, element_read}
use Rattle.dfr_bus.proofs.laws.elements.Goals as goal

pub returns-clause-meaning : goal.returns-clause-meaning
returns-clause-meaning c = element_means

pub returns-clause-read : goal.returns-clause-read
returns-clause-read c = element_read
