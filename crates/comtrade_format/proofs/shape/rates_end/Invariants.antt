use Rattle.std.proofs.Common.{◌≡◌, drop}
use Rattle.comtrade_format.specs.Shape.{rates_end}
use Rattle.comtrade_format.proofs.shape.rates_end.Given as goal

abbrev pub invariant-loop-rate : goal.invariant-loop-rate
invariant-loop-rate l = rates_end l.last (drop l.rate-index l.rates) ≡ rates_end 0 l.rates
