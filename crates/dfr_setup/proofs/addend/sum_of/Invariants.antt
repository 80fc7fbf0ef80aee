use Rattle.std.proofs.Common.{◌≡◌, length}
use Rattle.std.specs.Prelude.{◌==◌}
use Rattle.std.specs.List.{slice_split}
use Rattle.comtrade_values.specs.Lines.{texts}
use Rattle.dfr_setup.specs.Addends.{no_sum, with_words}
use Rattle.dfr_setup.proofs.addend.sum_of.Given as goal

abbrev pub invariant-loop-left : goal.invariant-loop-left
invariant-loop-left g l = with_words l.channels l.test l.sum (texts l.left) ≡ with_words l.channels l.test no_sum (slice_split (λ b. b == 43) l.text)

abbrev pub decreases-loop-left : goal.decreases-loop-left
decreases-loop-left g l = length l.left
