use Rattle.std.proofs.Common.{arith}
use Rattle.std.proofs.lemmas.Grind.{common_steps}
use Rattle.comtrade_read.specs.Line.{next}
use Rattle.comtrade_read.specs.Head.{counts_line}
use Rattle.comtrade_read.proofs.settings.counts_of.Goals as goal

pub returns-clause-value : goal.returns-clause-value
unfolding next counts_line
returns-clause-value g c = rw c.in_ok-number.ensures (grind (arith, common_steps))
