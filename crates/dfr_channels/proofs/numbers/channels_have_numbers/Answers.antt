use Rattle.std.proofs.Common.{All, List, subst}
use Rattle.std.proofs.lemmas.List.{take_all}
use Rattle.std.proofs.lemmas.List.Elements.{All-more}
use Rattle.dfr_channels.specs.Parts.{AnalogParts}
use Rattle.dfr_channels.specs.Decimals.{HasDecimals}
use Rattle.dfr_channels.proofs.numbers.channels_have_numbers.Goals as goal

pub loop-channel-preserved : goal.loop-channel-preserved
loop-channel-preserved g c =
    All-more HasDecimals c.args.channels.now c.loop-channel.channel-index c.channel-item.result c.loop-channel-test.true c.loop-channel.invariant (subst HasDecimals c.channel-item.is c.channel_has_numbers.ensures)

pub returns : goal.returns
returns g c = subst (λ (l : List AnalogParts). All HasDecimals l) (take_all c.loop-channel.channel-index c.args.channels.now c.loop-channel-test.false) c.loop-channel.invariant
