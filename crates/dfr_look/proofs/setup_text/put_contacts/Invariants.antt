use Rattle.std.proofs.Common.{◌-◌, ◌≤◌}
use Rattle.dfr_look.proofs.setup_text.put_contacts.Given as goal

abbrev pub invariant-loop-at : goal.invariant-loop-at
invariant-loop-at g l = l.contacts ≤ 256

-- each element leaves fewer bytes
abbrev pub decreases-loop-at : goal.decreases-loop-at
decreases-loop-at g l = l.data.to - l.at
