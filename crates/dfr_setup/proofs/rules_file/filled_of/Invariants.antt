use Rattle.std.proofs.Common.{◌≡◌, ◌++◌, length}
use Rattle.std.specs.Prelude.{◌==◌}
use Rattle.std.specs.List.{slice_split}
use Rattle.comtrade_values.specs.Lines.{texts}
use Rattle.dfr_setup.specs.RulesFiles.{filled_lines}
use Rattle.dfr_setup.proofs.rules_file.filled_of.Given as goal

abbrev pub invariant-loop-left : goal.invariant-loop-left
invariant-loop-left g l = l.all.items ++ filled_lines l.rules (texts l.left) ≡ filled_lines l.rules (slice_split (λ b. b == 10) l.text)

abbrev pub decreases-loop-left : goal.decreases-loop-left
decreases-loop-left g l = length l.left
