use Rattle.std.proofs.Common.{◌≡◌, take}
use Rattle.std.specs.List.{list_all}
use Rattle.comtrade_format.specs.Refusals.{takes_reading}
use Rattle.comtrade_format.proofs.checks.takes_all.Given as goal

abbrev pub invariant-loop-reading : goal.invariant-loop-reading
invariant-loop-reading l = l.all ≡ list_all (takes_reading l.m) (take l.reading-index l.values)
