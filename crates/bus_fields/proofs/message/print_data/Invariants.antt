use Rattle.std.proofs.Common.{◌-◌}
use Rattle.bus_fields.proofs.message.print_data.Given as goal

-- each element leaves fewer bytes
abbrev pub decreases-loop-at : goal.decreases-loop-at
decreases-loop-at g l = l.data.to - l.at
