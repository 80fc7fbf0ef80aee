use Rattle.std.proofs.Common.{◌≡◌}
use Rattle.dfr_live.specs.Seen.{new_tokens}
use Rattle.dfr_live.proofs.opened.new_tokens.Given as goal

abbrev pub invariant-loop-seat : goal.invariant-loop-seat
invariant-loop-seat g l = l.tokens.items ≡ new_tokens l.seat
