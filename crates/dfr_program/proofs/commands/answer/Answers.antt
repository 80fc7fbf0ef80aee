use Rattle.std.proofs.Common.{◌++◌, ap, ◌∙◌}
use Rattle.dfr_script.specs.Commands.{parts_of}
use Rattle.dfr_program.specs.Transcript.{step_of}
use Rattle.dfr_program.proofs.Answering.{puts_lost, puts_trigger, prints_put, scan_step, lost_step, trigger_step, take_step, set_step, prints_as}
use Rattle.dfr_program.proofs.commands.answer.Goals as goal

pub returns-in_ok-extend_from_slice-in-Scan : goal.returns-in_ok-extend_from_slice-in-Scan
returns-in_ok-extend_from_slice-in-Scan g c =
    prints_put (tt {0}) c.args.kind c.args.recorder.now c.answer_scan.new.recorder _ _ _ _ _ _ _
    (ap (λ v. step_of c.args.recorder.now.layout (parts_of v)) c.in-Scan.is ∙ scan_step _ _) c.clear.ensures.items c.in_ok-answer_scan-in-Scan.ensures (c.in_ok-extend_from_slice-in-Scan.ensures.items ∙ ap (λ l. c.args.out.now.items ++ l) c.deref.ensures.value)

pub returns-in_ok-extend_from_slice-in-Lost : goal.returns-in_ok-extend_from_slice-in-Lost
returns-in_ok-extend_from_slice-in-Lost g c =
    prints_put (tt {0}) c.args.kind c.args.recorder.now c.lost.new.self _ _ _ _ _ _ _
    (ap (λ v. step_of c.args.recorder.now.layout (parts_of v)) c.in-Lost.is ∙ lost_step _) c.clear.ensures.items (puts_lost c.args.recorder.now c.lost.new.self c.lost.result _ _ (c.lost.ensures.step c.in_ok-put_lost-in-Lost.ensures.named) c.in_ok-put_lost-in-Lost.ensures.text) (c.in_ok-extend_from_slice-in-Lost.ensures.items ∙ ap (λ l. c.args.out.now.items ++ l) c.deref-in-Lost.ensures.value)

pub returns-in_ok-extend_from_slice-in-Trigger : goal.returns-in_ok-extend_from_slice-in-Trigger
returns-in_ok-extend_from_slice-in-Trigger g c =
    prints_put (tt {0}) c.args.kind c.args.recorder.now c.trigger.new.self _ _ _ _ _ _ _
    (ap (λ v. step_of c.args.recorder.now.layout (parts_of v)) c.in-Trigger.is ∙ trigger_step _) c.clear.ensures.items (puts_trigger c.args.recorder.now c.trigger.new.self c.trigger.result _ _ (c.trigger.ensures.step c.in_ok-put_trigger-in-Trigger.ensures.named) c.in_ok-put_trigger-in-Trigger.ensures.text) (c.in_ok-extend_from_slice-in-Trigger.ensures.items ∙ ap (λ l. c.args.out.now.items ++ l) c.deref-in-Trigger.ensures.value)

pub returns-in_ok-extend_from_slice-in-Rules : goal.returns-in_ok-extend_from_slice-in-Rules
returns-in_ok-extend_from_slice-in-Rules g c =
    prints_put (tt {0}) c.args.kind c.args.recorder.now c.answer_rules.new.recorder _ _ _ _ _ _ _
    (ap (λ v. step_of c.args.recorder.now.layout (parts_of v)) c.in-Rules.is ∙ set_step _ _ _) c.clear.ensures.items c.in_ok-answer_rules-in-Rules.ensures (c.in_ok-extend_from_slice-in-Rules.ensures.items ∙ ap (λ l. c.args.out.now.items ++ l) c.deref-in-Rules.ensures.value)

pub returns-in-Take : goal.returns-in-Take
returns-in-Take g c =
    prints_as _ _ _ _ _ _ _ _ _ _ (ap (λ v. step_of c.args.recorder.now.layout (parts_of v)) c.in-Take.is ∙ take_step _) c.answer_take.ensures
