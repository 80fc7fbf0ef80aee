use Rattle.std.proofs.Common.{◌≡◌, ◌*◌, ◌^◌, ◌≤◌, drop, Some}
use Rattle.std.specs.Prelude.{unsigned_abs}
use Rattle.dfr_detect.specs.Signals.{plus, sum_of}
use Rattle.dfr_detect.proofs.sum.sum_of.Given as goal

abbrev pub invariant-loop-channel : goal.invariant-loop-channel
invariant-loop-channel l = record {
  sum : plus (Some l.sum) (sum_of (drop l.channel-index l.channels) l.readings) ≡ sum_of l.channels l.readings;
  bound : unsigned_abs l.sum ≤ l.channel-index * 2 ^ 31;
}
