use Rattle.std.proofs.Common.{take}
use Rattle.std.specs.List.{AllZip}
use Rattle.comtrade_c.specs.Channels.{IsRate}
use Rattle.comtrade_c.proofs.channels.rates_of.Given as goal

abbrev pub invariant-loop-rate : goal.invariant-loop-rate
invariant-loop-rate l = AllZip IsRate (take l.rate-index l.rates) l.said.items
