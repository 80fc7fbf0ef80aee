use Rattle.std.proofs.Common.{◌≡◌, take, length}
use Rattle.comtrade_analysis.specs.Contacts.{contact_events}
use Rattle.comtrade_analysis.proofs.contacts.first_events_of.Given as goal

abbrev pub invariant-loop-row : goal.invariant-loop-row
invariant-loop-row g l = (l.events.items ≡ take l.most (contact_events l.rows l.contact l.row)) × (length l.rows ≡ 0 → l.row ≡ 1)
