use Rattle.std.proofs.Common.{◌≡◌, ◌++◌, length}
use Rattle.dfr_capture.specs.Listening.{listening_of, passed, passed_events}
use Rattle.dfr_capture.proofs.listening.pass_blocks.Given as goal

abbrev pub invariant-loop-n : goal.invariant-loop-n
invariant-loop-n g l = record {
  long : length l.blocks ≡ length l.fn.blocks;
  state : listening_of l.blocks l.held ≡ passed l.time l.n (listening_of l.fn.blocks l.fn.held);
  events : l.out.items ≡ l.fn.out.items ++ passed_events l.time l.n (listening_of l.fn.blocks l.fn.held);
}
