use Rattle.std.proofs.Common.{[]}
use Rattle.comtrade_values.specs.Fields.{bit}
use Rattle.comtrade_read.proofs.PlainRows.{none_yet}
use Rattle.comtrade_read.proofs.plain_rows.last_bits.Goals as goal

pub returns-then-count-eq0 : goal.returns-then-count-eq0
returns-then-count-eq0 g c = rw (c.in-None.is, c.if-count-eq0.true, c.new.ensures.items) (none_yet bit [])
