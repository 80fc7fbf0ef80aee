use Rattle.std.proofs.Common.{◌≡◌, length}
use Rattle.comtrade_analysis.proofs.fit.Fit.sizes.Given as goal

abbrev pub invariant-loop-below : goal.invariant-loop-below
invariant-loop-below g l = length l.sizes.items ≡ l.below
