use Rattle.std.proofs.Common.{take}
use Rattle.std.specs.List.{AllZip}
use Rattle.comtrade_plot.specs.Equal.{IsPartner}
use Rattle.comtrade_plot.proofs.plan.equal.partners_of.Given as goal

abbrev pub invariant-loop-one : goal.invariant-loop-one
invariant-loop-one g l = AllZip (IsPartner l.others) (take l.one-index l.ones) l.partners.items
