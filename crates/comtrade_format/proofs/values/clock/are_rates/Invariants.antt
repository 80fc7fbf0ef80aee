use Rattle.std.proofs.Common.{◌≡◌, drop}
use Rattle.comtrade_format.specs.Times.{are_rates}
use Rattle.comtrade_format.proofs.values.clock.are_rates.Given as goal

abbrev pub invariant-loop-rate : goal.invariant-loop-rate
invariant-loop-rate l = are_rates (drop l.rate-index l.rates) ≡ are_rates l.rates
