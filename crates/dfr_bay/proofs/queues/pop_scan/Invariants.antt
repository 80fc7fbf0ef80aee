use Rattle.std.proofs.Common.{◌≡◌, ◌+◌, ◌-◌, ◌≤◌, ◌++◌, take, drop, map, length, vec_len, vec_capacity}
use Rattle.dfr_bay.specs.Waiting.{head, popped}
use Rattle.dfr_bay.proofs.queues.pop_scan.Given as goal

abbrev pub invariant-loop-queue : goal.invariant-loop-queue
invariant-loop-queue g l = record {
  room : vec_len l.scans + (length l.queues - l.queue-index) ≤ vec_capacity l.scans;
  same : vec_capacity l.scans ≡ vec_capacity l.fn.scans;
  long : length l.queues ≡ length l.fn.queues;
  scans : l.scans.items ≡ l.fn.scans.items ++ map head (take l.queue-index l.fn.queues);
  queues : l.queues ≡ map popped (take l.queue-index l.fn.queues) ++ drop l.queue-index l.fn.queues;
}
