use Rattle.std.proofs.Common.{rules}
use Rattle.dfr_live.proofs.shared.pump_many.Goals as goal

pub returns-then-count-eq18446744073709551615-clause-counter : goal.returns-then-count-eq18446744073709551615-clause-counter
returns-then-count-eq18446744073709551615-clause-counter g c = search rules depth 1
