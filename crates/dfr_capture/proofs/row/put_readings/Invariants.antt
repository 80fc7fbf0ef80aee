use Rattle.std.proofs.Common.{◌≡◌, ◌++◌, drop}
use Rattle.dfr_capture.specs.Rows.{readings_text, lost_readings}
use Rattle.dfr_capture.proofs.row.put_readings.Given as goal

-- what is written and told, and what is still to be, are all of it
abbrev pub invariant-loop-n : goal.invariant-loop-n
invariant-loop-n g l = record {
  text : l.out.items ++ readings_text l.scan l.n (drop l.n l.channels) ≡ l.fn.out.items ++ readings_text l.scan 0 l.channels;
  told : l.missing.items ++ lost_readings l.scan l.n (drop l.n l.channels) ≡ l.fn.missing.items ++ lost_readings l.scan 0 l.channels;
}
