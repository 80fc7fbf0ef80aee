use Rattle.std.proofs.Common.{take}
use Rattle.std.specs.List.{AllZip}
use Rattle.comtrade_c.specs.Channels.{IsAnalog}
use Rattle.comtrade_c.proofs.channels.analogs_of.Given as goal

abbrev pub invariant-loop-channel : goal.invariant-loop-channel
invariant-loop-channel l = AllZip IsAnalog (take l.channel-index l.channels) l.said.items
