use Rattle.std.proofs.Common.{◌≡◌, drop}
use Rattle.dfr_bay.specs.Waiting.{one_waits_long}
use Rattle.dfr_bay.proofs.queues.one_waits_long.Given as goal

abbrev pub invariant-loop-queue : goal.invariant-loop-queue
invariant-loop-queue g l = one_waits_long l.limit (drop l.queue-index l.queues) ≡ one_waits_long l.limit l.queues
