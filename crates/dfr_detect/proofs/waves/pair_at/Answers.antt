use Rattle.std.proofs.lemmas.List.{get_or_default}
use Rattle.dfr_detect.proofs.waves.pair_at.Goals as goal

pub returns : goal.returns
returns c = get_or_default _ _ _ _ c.requires
