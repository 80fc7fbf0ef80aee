use Rattle.std.proofs.Common.{◌≤◌, ◌+◌, ◌-◌, length, vec_len, vec_capacity}
use Rattle.dfr_detect.proofs.Each.{Stepped}
use Rattle.dfr_detect.proofs.detectors.append_bits.Given as goal

abbrev pub invariant-loop-detector : goal.invariant-loop-detector
invariant-loop-detector g l = record {
  room : vec_len l.bits + (length l.list - l.detector-index) ≤ vec_capacity l.bits;
  done : Stepped l.fn.list l.readings l.fn.bits.items l.bits.items l.list l.detector-index;
}
