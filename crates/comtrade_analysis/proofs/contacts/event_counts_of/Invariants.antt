use Rattle.std.proofs.Common.{◌≡◌, length}
use Rattle.comtrade_analysis.specs.Contacts.{AreCounts}
use Rattle.comtrade_analysis.proofs.contacts.event_counts_of.Given as goal

abbrev pub invariant-loop-row : goal.invariant-loop-row
invariant-loop-row g l = record {
  count : length l.counts.items ≡ l.contacts;
  each : AreCounts l.rows l.row l.counts.items;
  none : length l.rows ≡ 0 → l.row ≡ 1;
}
