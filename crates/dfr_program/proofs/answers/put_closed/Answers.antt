use Rattle.std.proofs.Common.{rules, tests}
use Rattle.dfr_program.proofs.answers.put_closed.Goals as goal

pub returns-in-Some : goal.returns-in-Some
returns-in-Some g c = search (tests, rules)
