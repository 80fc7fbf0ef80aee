use Rattle.std.proofs.Common.{◌≡◌, ◌++◌, take}
use Rattle.std.specs.List.{flat_map}
use Rattle.dfr_program.specs.Reports.{entry_text}
use Rattle.dfr_program.proofs.report.put_entries.Given as goal

abbrev pub invariant-loop-entry : goal.invariant-loop-entry
invariant-loop-entry g l = l.out.items ≡ l.initial.out.items ++ flat_map entry_text (take l.entry-index l.log)
