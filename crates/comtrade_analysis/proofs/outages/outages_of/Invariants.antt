use Rattle.std.proofs.Common.{◌≡◌, map}
use Rattle.comtrade_analysis.specs.Outages.{run_of, outages_before}
use Rattle.comtrade_analysis.proofs.outages.outages_of.Given as goal

abbrev pub invariant-loop-row : goal.invariant-loop-row
invariant-loop-row g l = map run_of l.outages.items ≡ outages_before l.rows l.row
