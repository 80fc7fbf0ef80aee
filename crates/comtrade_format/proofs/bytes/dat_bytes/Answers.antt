use Rattle.std.proofs.Common.{rules, tests}
use Rattle.comtrade_format.proofs.bytes.dat_bytes.Goals as goal

pub returns-in-Binary : goal.returns-in-Binary
returns-in-Binary g c = search (tests, rules)
