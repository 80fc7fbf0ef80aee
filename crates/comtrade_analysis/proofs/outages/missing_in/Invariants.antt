use Rattle.std.proofs.Common.{◌≡◌, ◌≤◌, take}
use Rattle.std.specs.Prelude.{count_by}
use Rattle.comtrade_analysis.specs.Outages.{is_missing}
use Rattle.comtrade_analysis.proofs.outages.missing_in.Given as goal

abbrev pub invariant-loop-reading : goal.invariant-loop-reading
invariant-loop-reading g l = record {
  count : l.count ≡ count_by is_missing (take l.reading-index l.reading-items);
  few : l.count ≤ l.reading-index;
}
