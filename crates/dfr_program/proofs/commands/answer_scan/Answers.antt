use Rattle.std.proofs.Common.{ap, Ok}
use Rattle.dfr_recorder.specs.Steps as step
use Rattle.dfr_program.proofs.Answering.{on_ok_map, on_ok_both, puts_same, puts_scanned, puts_refusal}
use Rattle.dfr_program.proofs.commands.answer_scan.Goals.{in-Ok, in-Err}
use Rattle.dfr_program.proofs.commands.answer_scan.Goals as goal

pub returns : goal.returns
returns g c = elim c.match-scan.branch [
  | in-Ok w ↦ puts_same c.match-scan.result w.put_scanned.result c.args.recorder.now c.scan.new.self (Ok (step.Scan c.args.scan)) c.args.line.now.items c.match-scan.line.items w.put_scanned.new.out.items w.result-is (ap (λ v. v.items) w.line-is)
      (on_ok_map w.put_scanned.result w.put_scanned.ensures (λ e. puts_scanned c.args.recorder.now c.scan.new.self c.args.scan _ c.args.line.now.items w.put_scanned.new.out.items w.in-Ok.ensures.ok e))
  | in-Err w ↦ puts_same c.match-scan.result w.put_scan_refusal.result c.args.recorder.now c.scan.new.self (Ok (step.Scan c.args.scan)) c.args.line.now.items c.match-scan.line.items w.put_scan_refusal.new.out.items w.result-is (ap (λ v. v.items) w.line-is)
      (on_ok_both w.put_scan_refusal.result w.put_scan_refusal.ensures.text w.put_scan_refusal.ensures.named (λ e n. puts_refusal c.args.recorder.now c.scan.new.self c.args.scan _ c.args.line.now.items w.put_scan_refusal.new.out.items (w.in-Err.ensures.refused n) e))
]
