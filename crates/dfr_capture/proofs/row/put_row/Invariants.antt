use Rattle.std.proofs.Common.{◌≡◌, drop}
use Rattle.dfr_capture.specs.Units.{first_unit}
use Rattle.dfr_capture.proofs.row.put_row.Given as goal

abbrev pub invariant-loop-sample : goal.invariant-loop-sample
invariant-loop-sample g l = record {
  same : l.out.items ≡ l.fn.out.items;
  untold : l.missing.items ≡ l.fn.missing.items;
  first : first_unit (drop l.sample-index l.scan) ≡ first_unit l.scan;
}
