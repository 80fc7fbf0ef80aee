use Rattle.std.proofs.Common.{◌≡◌, ◌+◌, ◌≤◌, length}
use Rattle.dfr_live.proofs.shared.pump_many.Given as goal

abbrev pub invariant-loop-scans : goal.invariant-loop-scans
invariant-loop-scans g l =
    (l.count ≡ l.initial.count + l.scans)
    × (length l.inner.stepped ≡ length l.initial.inner.stepped + l.scans)
    × (l.initial.missed ≤ l.missed)
    × (l.missed ≤ l.initial.missed + l.scans)
