use Rattle.std.proofs.Common.{arith, append_assoc, append-nil}
use Rattle.std.proofs.lemmas.Grind.{common_steps}
use Rattle.dfr_header.proofs.EmptyRows.{one_off}
use Rattle.dfr_header.proofs.rows.repeated.Goals as goal

pub loop-preserved : goal.loop-preserved
loop-preserved g c = grind (arith, common_steps, append_assoc, one_off)
