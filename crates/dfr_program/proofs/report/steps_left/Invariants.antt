use Rattle.std.proofs.Common.{◌≡◌, ◌+◌, ◌*◌, ◌≤◌, drop}
use Rattle.std.specs.Prelude.{sum_by}
use Rattle.dfr_live.specs.Parts.{LeftParts}
use Rattle.dfr_program.proofs.report.steps_left.Given as goal

abbrev pub invariant-loop-item : goal.invariant-loop-item
invariant-loop-item g l =
    (l.steps + sum_by (λ (x : LeftParts). x.lost + 1) (drop l.item-index l.left) ≡ sum_by (λ (x : LeftParts). x.lost + 1) l.left)
    × (l.steps ≤ l.item-index * 4_294_967_296)
