use Rattle.std.proofs.Common.{◌≡◌, ◌+◌, []}
use Rattle.std.specs.Prelude.{replicate}
use Rattle.circular_buffer.specs.Buffer.{buffer}
use Rattle.dfr_bay.proofs.queues.empty_queues.Given as goal

abbrev pub invariant-loop-i : goal.invariant-loop-i
invariant-loop-i g l = l.queues.items ≡ replicate l._i (buffer [] (l.limit + 1))
