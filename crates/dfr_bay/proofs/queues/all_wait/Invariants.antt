use Rattle.std.proofs.Common.{◌≡◌, drop}
use Rattle.dfr_bay.specs.Waiting.{all_wait}
use Rattle.dfr_bay.proofs.queues.all_wait.Given as goal

abbrev pub invariant-loop-queue : goal.invariant-loop-queue
invariant-loop-queue g l = all_wait (drop l.queue-index l.queues) ≡ all_wait l.queues
