use Rattle.std.proofs.Common.{◌≡◌, ◌+◌, ◌++◌, drop}
use Rattle.comtrade_format.specs.Numbered.{numbered}
use Rattle.comtrade_write.specs.OfRecord.{row_of}
use Rattle.comtrade_write.proofs.of_record.rows.Given as goal

-- what is made and what is still to be made are all of it
abbrev pub invariant-loop-i : goal.invariant-loop-i
invariant-loop-i g l = l.list.items ++ numbered (row_of l.rate) (1 + l.i) (drop l.i l.scans) ≡ numbered (row_of l.rate) 1 l.scans
