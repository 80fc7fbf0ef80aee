use Rattle.std.proofs.Common.{◌≡◌, ◌++◌, take, drop}
use Rattle.std.specs.Prelude.{map}
use Rattle.comtrade_c.specs.Tables.{sample_of}
use Rattle.comtrade_c.proofs.rows.put_row.Given as goal

abbrev pub invariant-loop-k : goal.invariant-loop-k
invariant-loop-k l = l.to ≡ map sample_of (take l.k l.readings) ++ drop l.k l.initial.to
