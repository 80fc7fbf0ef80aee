use Rattle.std.proofs.Common.{◌≡◌, take}
use Rattle.comtrade_c.specs.Measures.{column}
use Rattle.comtrade_c.proofs.measure.column_of.Given as goal

abbrev pub invariant-loop-sample : goal.invariant-loop-sample
invariant-loop-sample l = l.rows.items ≡ column (take l.sample-index l.samples)
