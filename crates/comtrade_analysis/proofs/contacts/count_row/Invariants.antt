use Rattle.std.proofs.Common.{◌≡◌, ℕ, ◌+◌, ◌<◌, ◌≤◌, length, get_or}
use Rattle.comtrade_analysis.specs.Contacts.{contact_events}
use Rattle.comtrade_analysis.proofs.contacts.count_row.Given as goal

abbrev pub invariant-loop-contact : goal.invariant-loop-contact
invariant-loop-contact g l = record {
  done : (k d : ℕ) → k < l.contact → get_or l.counts k d ≡ length (contact_events l.rows k (l.row + 1));
  rest : (k d : ℕ) → l.contact ≤ k → k < length l.counts → get_or l.counts k d ≡ length (contact_events l.rows k l.row);
}
