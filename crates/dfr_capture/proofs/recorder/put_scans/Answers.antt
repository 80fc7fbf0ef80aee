use Rattle.std.proofs.Common.{◌≡◌, ◌+◌, ◌≤◌, ◌<◌, ◌-◌, ◌++◌, ◌∙◌, ap, sym, List, length, take, drop, arith, refl, ℕ}
use Rattle.dfr_capture.specs.Rows.{row, missing_in, each_scan}
use Rattle.dfr_capture.proofs.Scans.{scan_more, scan_end}
use Rattle.dfr_capture.proofs.recorder.put_scans.Goals as goal

pub loop-at-preserved : goal.loop-at-preserved
loop-at-preserved g c =
    let h = c.loop-at.invariant in
    let p = c.args.plan.now in
    let n = length c.args.plan.now.streams in
    let at = c.loop-at.at in
    let xs = c.args.scans.now in
    let some : 1 ≤ length c.args.plan.now.streams = rw (← c.plan.view_is) c.plan.invariant.some in
    let within : c.loop-at.at + length c.args.plan.now.streams ≤ length c.args.scans.now = omega (arith, h.within, h.all, c.loop-at-test.true) in
    let size : c.loop-at.at + c.len-streams.result - c.loop-at.at ≡ length c.args.plan.now.streams = omega (arith, h.all) in
    let lines : c.put_row.new.out.items ++ each_scan (row p) n (drop (at + c.len-streams.result) xs) ≡ c.loop-at.lines.items ++ each_scan (row p) n (drop at xs) =
    rw h.all (scan_more (row p) n at xs _ c.loop-at.lines.items c.put_row.new.out.items some within (ap (λ (k : ℕ). take k (drop at xs)) size) c.in_ok-put_row.ensures.text) in
    let missing : c.put_row.new.missing.items ++ each_scan (missing_in p) n (drop (at + c.len-streams.result) xs)
    ≡ c.loop-at.missing.items ++ each_scan (missing_in p) n (drop at xs) =
    rw h.all (scan_more (missing_in p) n at xs _ c.loop-at.missing.items c.put_row.new.missing.items some within (ap (λ (k : ℕ). take k (drop at xs)) size) c.in_ok-put_row.ensures.told) in
    record {
      within = omega (arith, h.within, c.loop-at-test.true);
      all = h.all;
      lines = lines ∙ h.lines;
      missing = missing ∙ h.missing;
    }

pub returns-clause-lines : goal.returns-clause-lines
returns-clause-lines g c =
    let h = c.loop-at.invariant in
    sym (scan_end (row c.args.plan.now) (length c.args.plan.now.streams) c.loop-at.at c.args.scans.now c.loop-at.lines.items (omega (arith, h.all, c.loop-at-test.false)))
    ∙ h.lines

pub returns-clause-missing : goal.returns-clause-missing
returns-clause-missing g c =
    let h = c.loop-at.invariant in
    sym (scan_end (missing_in c.args.plan.now) (length c.args.plan.now.streams) c.loop-at.at c.args.scans.now c.loop-at.missing.items (omega (arith, h.all, c.loop-at-test.false)))
    ∙ h.missing
