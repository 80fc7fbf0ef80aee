use Rattle.std.proofs.Common.{rules}
use Rattle.dfr_bay.proofs.Boards.{taken}
use Rattle.dfr_bay.proofs.bay.Bay.take_in.Goals as goal

pub returns-clause-ok : goal.returns-clause-ok
returns-clause-ok g c = taken _ _ _ _ _ _ (search rules) (search rules) (search rules)
