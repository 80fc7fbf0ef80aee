use Rattle.std.proofs.Common.{◌≡◌, ◌≤◌}
use Rattle.std.specs.Vec.{vec_len, vec_capacity}
use Rattle.dfr_station.specs.Frames.{samples_at}
use Rattle.dfr_station.proofs.intake.frame.put_readings.Given as goal

abbrev pub invariant-loop-i : goal.invariant-loop-i
invariant-loop-i g l = record {
  items : l.readings.items ≡ samples_at l.lowest l.i l.frame;
  len : vec_len l.readings ≡ l.i;
  room : l.count ≤ vec_capacity l.readings;
}
