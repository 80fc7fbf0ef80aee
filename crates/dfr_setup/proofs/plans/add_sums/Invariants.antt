use Rattle.std.proofs.Common.{◌≡◌, length}
use Rattle.comtrade_values.specs.Lines.{texts}
use Rattle.dfr_setup.specs.Plans.{with_sums}
use Rattle.dfr_setup.proofs.plans.add_sums.Given as goal

abbrev pub invariant-loop-left : goal.invariant-loop-left
invariant-loop-left g l =
    with_sums l.setup l.wish l.is_only (texts l.words) l.plans.items (texts l.left)
    ≡ with_sums l.setup l.wish l.is_only (texts l.words) l.fn.plans.items (texts l.sums)

abbrev pub decreases-loop-left : goal.decreases-loop-left
decreases-loop-left g l = length l.left
