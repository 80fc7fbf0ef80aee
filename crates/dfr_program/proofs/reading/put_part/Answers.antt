use Rattle.std.proofs.Common.{rules, tests}
use Rattle.dfr_program.proofs.reading.put_part.Goals as goal

pub returns-in-Dat : goal.returns-in-Dat
returns-in-Dat g c = search (tests, rules)
