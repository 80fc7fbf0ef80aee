use Rattle.std.proofs.Common.{◌≡◌, replicate}
use Rattle.comtrade_analysis.specs.declared.surveys.TheConstants.{NOTHING}
use Rattle.comtrade_analysis.proofs.surveys.nothing_of.Given as goal

abbrev pub invariant-loop-i : goal.invariant-loop-i
invariant-loop-i g l = l.surveys.items ≡ replicate l.i NOTHING
