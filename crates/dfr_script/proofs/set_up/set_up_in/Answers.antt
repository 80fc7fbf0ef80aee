use Rattle.std.proofs.Common.{arith}
use Rattle.std.specs.Prelude.{not}
use Rattle.std.proofs.lemmas.List.Sums.{prefix_len-le-length}
use Rattle.dfr_script.specs.Scripts.{is_go}
use Rattle.dfr_script.proofs.set_up.set_up_in.Goals as goal

pub set_up_at-requires : goal.set_up_at-requires
set_up_at-requires g c =
    omega (arith, c.requires, c.in_ok-draft.ensures.place, prefix_len-le-length (λ l. not (is_go l)) c.args.lines)
