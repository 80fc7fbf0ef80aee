use Rattle.std.proofs.Common.{take}
use Rattle.std.specs.List.{AllZip}
use Rattle.comtrade_plot.specs.Beside.{IsBeside}
use Rattle.comtrade_plot.proofs.plan.beside.places_of.Given as goal

abbrev pub invariant-loop-time : goal.invariant-loop-time
invariant-loop-time g l = AllZip (IsBeside l.moments) (take l.time-index l.times) l.places.items
