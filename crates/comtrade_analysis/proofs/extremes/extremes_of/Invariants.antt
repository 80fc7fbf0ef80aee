use Rattle.comtrade_analysis.specs.Extremes.{AreExtremes}
use Rattle.comtrade_analysis.proofs.extremes.extremes_of.Given as goal

abbrev pub invariant-loop-row : goal.invariant-loop-row
invariant-loop-row g l = AreExtremes l.rows l.channel l.row l.extremes
