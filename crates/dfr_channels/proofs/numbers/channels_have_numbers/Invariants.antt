use Rattle.std.proofs.Common.{All, take}
use Rattle.dfr_channels.specs.Decimals.{HasDecimals}
use Rattle.dfr_channels.proofs.numbers.channels_have_numbers.Given as goal

abbrev pub invariant-loop-channel : goal.invariant-loop-channel
invariant-loop-channel g l = All HasDecimals (take l.channel-index l.channels)
