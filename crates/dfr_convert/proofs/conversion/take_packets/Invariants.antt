use Rattle.std.proofs.Common.{length}
use Rattle.dfr_convert.specs.Conversions.{kept, state, Takes, StaysKnown}
use Rattle.dfr_convert.proofs.conversion.take_packets.Given as goal

-- what was taken in so far
abbrev pub invariant-loop-at : goal.invariant-loop-at
invariant-loop-at g l =
    Takes (state (kept l.fn.pieces l.fn.recorder) l.fn.feed l.fn.first) (state (kept l.pieces l.recorder) l.feed l.first) × StaysKnown l.fn.first l.first

-- each packet leaves fewer bytes
abbrev pub decreases-loop-at : goal.decreases-loop-at
decreases-loop-at g l = length l.pieces.bytes
