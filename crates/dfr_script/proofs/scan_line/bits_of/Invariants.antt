use Rattle.std.proofs.Common.{◌≡◌, ◌++◌}
use Rattle.std.specs.Prelude.{is_some, option_copied}
use Rattle.std.specs.List.{list_all, filter_map}
use Rattle.comtrade_values.specs.Fields.{bit}
use Rattle.dfr_script.specs.ScanLines.{fields, fields_behind}
use Rattle.dfr_script.proofs.CutFields.{left_length}
use Rattle.dfr_script.proofs.scan_line.bits_of.Given as goal

abbrev pub invariant-loop-left : goal.invariant-loop-left
invariant-loop-left g l = record {
  reads : list_all (λ f. is_some (bit f)) (fields l.part) ≡ list_all (λ f. is_some (bit f)) (fields_behind (option_copied l.left));
  same : filter_map bit (fields l.part) ≡ l.list.items ++ filter_map bit (fields_behind (option_copied l.left));
}

abbrev pub decreases-loop-left : goal.decreases-loop-left
decreases-loop-left g l = left_length (option_copied l.left)
