use Rattle.std.proofs.Common.{length}
use Rattle.dfr_pcap.specs.Walks.{Goes}
use Rattle.dfr_pcap.proofs.blocks.Blocks.go_on.Given as goal

-- what was given so far
abbrev pub invariant-loop-at : goal.invariant-loop-at
invariant-loop-at g l = Goes l.fn.self l.self l.fn.out.items l.out.items

-- each part leaves fewer bytes
abbrev pub decreases-loop-at : goal.decreases-loop-at
decreases-loop-at g l = length l.self.bytes
