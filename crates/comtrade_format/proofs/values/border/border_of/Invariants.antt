use Rattle.comtrade_format.specs.Borders.{Seen, stamps_of}
use Rattle.comtrade_format.proofs.values.border.border_of.Given as goal

abbrev pub invariant-loop-i : goal.invariant-loop-i
invariant-loop-i g l = Seen l.file.head (stamps_of l.file.rows) l.i l.search
