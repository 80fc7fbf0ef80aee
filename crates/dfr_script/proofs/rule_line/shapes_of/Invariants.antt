use Rattle.std.proofs.Common.{◌≡◌, true, take}
use Rattle.std.specs.List.{list_all}
use Rattle.comtrade_values.specs.Lines.{texts}
use Rattle.dfr_script.specs.RuleLines.{has_shape, words}
use Rattle.dfr_script.proofs.rule_line.shapes_of.Given as goal

abbrev pub invariant-loop-part : goal.invariant-loop-part
invariant-loop-part g l = list_all (λ p. has_shape (words p)) (take l.part-index (texts l.parts)) ≡ true
