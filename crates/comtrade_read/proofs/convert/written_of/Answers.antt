use Rattle.std.proofs.Common.{rules}
use Rattle.comtrade_read.proofs.convert.written_of.Goals as goal

pub returns-clause-reads : goal.returns-clause-reads
returns-clause-reads g c = search rules depth 1
