use Rattle.std.proofs.Common.{◌≡◌, take}
use Rattle.comtrade_analysis.specs.Outages.{most_missing}
use Rattle.comtrade_analysis.proofs.outages.most_missing.Given as goal

abbrev pub invariant-loop-row : goal.invariant-loop-row
invariant-loop-row g l = l.most ≡ most_missing (take l.row-index l.rows)
