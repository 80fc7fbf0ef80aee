use Rattle.std.proofs.Common.{refl}
use Rattle.dfr_bay.proofs.Beginning.{one_more}
use Rattle.dfr_bay.proofs.bay.none_newest.Goals as goal

pub loop-i-preserved : goal.loop-i-preserved
loop-i-preserved g c = one_more _ _ _ _ _ c.loop-i.invariant refl c.in_ok-push.ensures.items
