use Rattle.std.proofs.Common.{◌≡◌, ◌++◌, take, map}
use Rattle.std.specs.List.{flat_map}
use Rattle.comtrade_format.specs.Lines.{line}
use Rattle.comtrade_format.specs.Cfg.{rate_fields}
use Rattle.comtrade_format.proofs.cfg.put_rates.Given as goal

abbrev pub invariant-loop-rate : goal.invariant-loop-rate
invariant-loop-rate g l = l.out.items ≡ l.initial.out.items ++ flat_map line (map rate_fields (take l.rate-index l.rates))
