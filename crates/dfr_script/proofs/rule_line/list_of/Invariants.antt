use Rattle.std.proofs.Common.{◌≡◌, true, take}
use Rattle.std.specs.Prelude.{is_some}
use Rattle.std.specs.List.{list_all, filter_map}
use Rattle.comtrade_values.specs.Lines.{texts}
use Rattle.dfr_script.specs.RuleLines.{rule, words}
use Rattle.dfr_script.proofs.rule_line.list_of.Given as goal

abbrev pub invariant-loop-part : goal.invariant-loop-part
invariant-loop-part g l = record {
  reads : list_all (λ p. is_some (rule (words p))) (take l.part-index (texts l.parts)) ≡ true;
  same : l.list.items ≡ filter_map (λ p. rule (words p)) (take l.part-index (texts l.parts));
}
