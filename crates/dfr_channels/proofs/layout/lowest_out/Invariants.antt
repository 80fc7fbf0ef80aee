use Rattle.std.proofs.Common.{◌≡◌, drop}
use Rattle.dfr_channels.specs.Scans.{lowest_out}
use Rattle.dfr_channels.proofs.layout.lowest_out.Given as goal

-- the channels left decide
abbrev pub invariant-loop-i : goal.invariant-loop-i
invariant-loop-i g l = lowest_out l.i (drop l.i l.channels) (drop l.i l.readings) ≡ lowest_out 0 l.channels l.readings
