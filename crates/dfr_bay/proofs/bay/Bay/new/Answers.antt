use Rattle.std.proofs.Common.{rules}
use Rattle.dfr_bay.proofs.Beginning.{sound_new, kept_new}
use Rattle.dfr_bay.proofs.bay.Bay.new.Goals as goal

pub invariant_of-result : goal.invariant_of-result
invariant_of-result g c = sound_new _ _ _ _ c.requires.settings c.requires.streams (search rules) (search rules)

pub returns : goal.returns
returns g c = kept_new _ _ _ _ (search rules) (search rules)
