use Rattle.std.proofs.lemmas.Grind.{common_steps}
use Rattle.std.proofs.Common.{rules, arith}
use Rattle.dfr_program.proofs.plan.ScansFeed.next.Goals as goal

pub returns-in-Some-Lost : goal.returns-in-Some-Lost
returns-in-Some-Lost g c = search rules depth 1

pub returns-in-Some-Scan : goal.returns-in-Some-Scan
returns-in-Some-Scan g c = search rules depth 1

pub returns-in-None : goal.returns-in-None
returns-in-None g c = grind (arith, common_steps)
