use Rattle.std.proofs.Common.{◌≡◌, map, take}
use Rattle.dfr_station.proofs.filler.Filler.new.Given as goal

abbrev pub invariant-loop-channel : goal.invariant-loop-channel
invariant-loop-channel g l = l.bits.items ≡ map (λ c. c.normal) (take l.channel-index l.channel-items)
