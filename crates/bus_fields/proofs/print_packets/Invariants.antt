use Rattle.std.proofs.Common.{length, ◌-◌}
use Rattle.bus_fields.proofs.print_packets.Given as goal

-- each packet leaves fewer bytes
abbrev pub decreases-loop-at : goal.decreases-loop-at
decreases-loop-at g l = length l.bytes - l.at
