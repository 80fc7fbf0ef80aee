use Rattle.std.proofs.Common.{◌≡◌, map, take}
use Rattle.dfr_channels.specs.Parts.{StatusParts}
use Rattle.dfr_recorder.proofs.lost.normal_states.Given as goal

abbrev pub invariant-loop-channel : goal.invariant-loop-channel
invariant-loop-channel g l = l.bits.items ≡ map (λ (channel : StatusParts). channel.normal) (take l.channel-index l.fn.channels)
