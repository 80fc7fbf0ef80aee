use Rattle.std.proofs.Common.{append_assoc}
use Rattle.dfr_header.specs.Headers.{scans_text}
use Rattle.dfr_header.proofs.record.put_scans.Goals as goal

pub returns : goal.returns
unfolding scans_text
returns g c = rw (c.in_ok-put_scan_line-3.ensures, c.in_ok-put_scan_line-2.ensures, c.in_ok-put_scan_line.ensures) (simp append_assoc)
