use Rattle.std.proofs.Common.{◌≡◌, ◌++◌, ◌-◌, ◌≤◌, length, drop}
use Rattle.dfr_capture.specs.Rows.{row, missing_in, each_scan}
use Rattle.dfr_capture.proofs.recorder.put_scans.Given as goal

abbrev pub invariant-loop-at : goal.invariant-loop-at
invariant-loop-at g l = record {
  within : l.at ≤ length l.scans;
  all : l.streams ≡ length l.plan.streams;
  lines : l.lines.items ++ each_scan (row l.plan) (length l.plan.streams) (drop l.at l.scans)
      ≡ l.fn.lines.items ++ each_scan (row l.plan) (length l.plan.streams) l.scans;
  missing : l.missing.items ++ each_scan (missing_in l.plan) (length l.plan.streams) (drop l.at l.scans)
      ≡ l.fn.missing.items ++ each_scan (missing_in l.plan) (length l.plan.streams) l.scans;
}

-- each scan leaves fewer samples
abbrev pub decreases-loop-at : goal.decreases-loop-at
decreases-loop-at g l = length l.scans - l.at
