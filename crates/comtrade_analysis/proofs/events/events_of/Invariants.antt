use Rattle.std.proofs.Common.{◌≡◌, ◌-◌, length}
use Rattle.comtrade_analysis.specs.Events.{events_after}
use Rattle.comtrade_analysis.proofs.events.events_of.Given as goal

abbrev pub invariant-loop-row : goal.invariant-loop-row
invariant-loop-row g l = (l.events.items ≡ events_after l.rows l.contacts (l.row - 1)) × (length l.rows ≡ 0 → l.row ≡ 1)
