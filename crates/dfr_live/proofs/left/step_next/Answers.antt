use Rattle.std.proofs.Common.{refl, arith, ap, Ok, Err, rules}
use Rattle.dfr_recorder.specs.Steps as step
use Rattle.dfr_recorder.specs.Answers as answers
use Rattle.dfr_recorder.specs.declared.step.ScanRefusal.{ScanRefusal}
use Rattle.dfr_live.specs.Calls.{as_scanned}
use Rattle.dfr_live.proofs.Weaving.{loses, loses-none}
use Rattle.dfr_live.proofs.left.step_next.Goals as goal

pub returns-in-Ok : goal.returns-in-Ok
returns-in-Ok g c = (step.Lost, answers.Lost (Ok c.in-Ok.scanned), loses c.args.lost c.args.scan (omega (arith, c.if-lost-gt0.true)), refl, c.in-Ok.ensures.step (λ e. absurd (cc)))

pub returns-in-Err-ClockEnd : goal.returns-in-Err-ClockEnd
returns-in-Err-ClockEnd g c = (step.Lost, answers.Lost (Err c.in-Err-ClockEnd.field-0), loses c.args.lost c.args.scan (omega (arith, c.if-lost-gt0.true)), ap (λ v. as_scanned (Err v)) c.in-Err-ClockEnd.field-0-is, c.in-Err-ClockEnd.ensures.step (λ e. absurd (cc (e, c.in-Err-ClockEnd.field-0-is))))

pub returns-in-Ok-scanned : goal.returns-in-Ok-scanned
returns-in-Ok-scanned g c = (step.Scan c.args.scan, answers.Scan (Ok c.in-Ok-scanned.scanned), loses-none c.args.lost c.args.scan (omega (arith, c.if-lost-gt0.false)), refl, c.in-Ok-scanned.ensures.ok)

pub returns-in-Err-Shape-default : goal.returns-in-Err-Shape-default
returns-in-Err-Shape-default g c = (step.Scan c.args.scan, answers.Scan (Err c.in-Err-Shape-default.field-0-0), loses-none c.args.lost c.args.scan (omega (arith, c.if-lost-gt0.false)), ap (λ (v : ScanRefusal). Err v) c.in-Err-Shape-default.field-0-0-is, c.in-Err-Shape-default.ensures.refused (λ e. absurd (cc (e, c.in-Err-Shape-default.field-0-0-is))))

pub returns-in-Err-Range-default : goal.returns-in-Err-Range-default
returns-in-Err-Range-default g c = (step.Scan c.args.scan, answers.Scan (Err c.in-Err-Range-default.field-0-0), loses-none c.args.lost c.args.scan (omega (arith, c.if-lost-gt0.false)), ap (λ (v : ScanRefusal). Err v) c.in-Err-Range-default.field-0-0-is, c.in-Err-Range-default.ensures.refused (λ e. absurd (cc (e, c.in-Err-Range-default.field-0-0-is))))

pub returns-in-Err-ClockEnd-default : goal.returns-in-Err-ClockEnd-default
returns-in-Err-ClockEnd-default g c = (step.Scan c.args.scan, answers.Scan (Err c.in-Err-ClockEnd-default.field-0-0), loses-none c.args.lost c.args.scan (omega (arith, c.if-lost-gt0.false)), ap (λ (v : ScanRefusal). Err v) c.in-Err-ClockEnd-default.field-0-0-is, c.in-Err-ClockEnd-default.ensures.refused (λ e. absurd (cc (e, c.in-Err-ClockEnd-default.field-0-0-is))))

pub returns-in-Err-Memory-default : goal.returns-in-Err-Memory-default
returns-in-Err-Memory-default g c = search rules depth 1
