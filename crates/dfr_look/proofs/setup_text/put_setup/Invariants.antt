use Rattle.std.proofs.Common.{◌≤◌}
use Rattle.dfr_look.proofs.setup_text.put_setup.Given as goal

abbrev pub invariant-loop-i : goal.invariant-loop-i
invariant-loop-i g l = l.channels ≤ 256

abbrev pub invariant-loop-i-2 : goal.invariant-loop-i-2
invariant-loop-i-2 g l = l.contacts ≤ 256
