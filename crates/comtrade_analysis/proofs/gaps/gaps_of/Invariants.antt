use Rattle.std.proofs.Common.{◌≡◌, map}
use Rattle.comtrade_analysis.specs.Gaps.{run_of, gaps_before}
use Rattle.comtrade_analysis.proofs.gaps.gaps_of.Given as goal

abbrev pub invariant-loop-row : goal.invariant-loop-row
invariant-loop-row g l = map run_of l.gaps.items ≡ gaps_before l.rows l.channel l.row
