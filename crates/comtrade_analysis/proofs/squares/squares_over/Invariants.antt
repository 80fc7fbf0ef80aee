use Rattle.comtrade_analysis.specs.Sums.{present}
use Rattle.comtrade_analysis.specs.MeanSquares.{AreSquares}
use Rattle.comtrade_analysis.proofs.squares.squares_over.Given as goal

abbrev pub invariant-loop-i : goal.invariant-loop-i
invariant-loop-i g l = AreSquares l.factors (present l.rows l.channel l.window.first l.i) l.sum
