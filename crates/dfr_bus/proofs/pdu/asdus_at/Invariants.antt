use Rattle.std.proofs.Common.{◌≡◌, ◌-◌, ◌≤◌, length}
use Rattle.std.specs.Prelude.{take}
use Rattle.dfr_bus.specs.SampledValues.{asdus_at}
use Rattle.dfr_bus.proofs.Asdus.{after}
use Rattle.dfr_bus.proofs.pdu.asdus_at.Given as goal

-- the ASDUs so far and those to what is left are all ASDUs
abbrev pub invariant-loop-i : goal.invariant-loop-i
invariant-loop-i l = record {
  so_far : after (take l.i l.places) (asdus_at l.bytes l.place l.end (l.count - l.i)) ≡ asdus_at l.bytes l.at l.end l.count;
  place : l.place ≤ l.end;
}
