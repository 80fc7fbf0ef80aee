use Rattle.std.proofs.Common.{◌≤◌}
use Rattle.dfr_look.proofs.setup_text.put_channels.Given as goal

abbrev pub invariant-loop-index : goal.invariant-loop-index
invariant-loop-index g l = l.channels ≤ 256
