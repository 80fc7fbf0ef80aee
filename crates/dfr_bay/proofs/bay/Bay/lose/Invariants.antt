use Rattle.std.proofs.Common.{◌≡◌, ◌+◌, ◌*◌, ◌≤◌, ◌++◌, length, vec_len, vec_capacity}
use Rattle.dfr_bay.specs.Waiting.{kept_lost, lost_give}
use Rattle.dfr_bay.proofs.bay.Bay.lose.Given as goal

abbrev pub invariant-loop-i : goal.invariant-loop-i
invariant-loop-i g l = record {
  kept : l.self ≡ kept_lost l.stream l.i l.fn.self;
  scans : l.scans.items ≡ l.fn.scans.items ++ lost_give l.stream l.i l.fn.self;
  streams : length l.self.queues ≡ length l.fn.self.queues;
  len : vec_len l.scans ≤ vec_len l.fn.scans + l.i * length l.fn.self.queues;
  room : vec_capacity l.scans ≡ vec_capacity l.fn.scans;
}
