use Rattle.std.proofs.Common.{◌≡◌, ◌+◌, ◌≤◌, drop}
use Rattle.std.specs.Prelude.{count_by}
use Rattle.dfr_live.specs.Report.{took_record}
use Rattle.dfr_live.proofs.report.records_in.Given as goal

abbrev pub invariant-loop-entry : goal.invariant-loop-entry
invariant-loop-entry g l = (l.count + count_by took_record (drop l.entry-index l.log) ≡ count_by took_record l.log) × (l.count ≤ l.entry-index)
