use Rattle.std.proofs.Common.{◌-◌}
use Rattle.dfr_look.proofs.block_text.put_kinds.Given as goal

-- each element leaves fewer bytes
abbrev pub decreases-loop-at : goal.decreases-loop-at
decreases-loop-at g l = l.data.to - l.at
