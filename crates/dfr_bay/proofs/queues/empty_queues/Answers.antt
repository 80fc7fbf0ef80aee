use Rattle.dfr_bay.proofs.Beginning.{one_more}
use Rattle.dfr_bay.proofs.queues.empty_queues.Goals as goal

pub loop-i-preserved : goal.loop-i-preserved
loop-i-preserved g c = one_more _ _ _ _ _ c.loop-i.invariant c.in_ok-queue.ensures c.in_ok-push.ensures.items
