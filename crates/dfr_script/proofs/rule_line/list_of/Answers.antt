use Rattle.std.proofs.Common.{◌∙◌, ◌++◌, ◌∷◌, [], sym, ap}
use Rattle.std.specs.Prelude.{is_some}
use Rattle.std.proofs.lemmas.Result.{err_from_is_err_and}
use Rattle.dfr_script.specs.RuleLines.{rule, words}
use Rattle.dfr_script.proofs.CutFields.{part_fails, part_passes, part_gives}
use Rattle.dfr_script.proofs.rule_line.list_of.Goals as goal

pub returns-in_err-needed : goal.returns-in_err-needed
returns-in_err-needed g c =
    let p = err_from_is_err_and c.from_residual-in_err-needed.result c.from_residual-in_err-needed.ensures.1 in
    let none = sym c.in_ok-read.ensures ∙ c.in_err-needed.ensures.0 in
    rw (p.1, p.2, c.in_err-needed.ensures.1, part_fails (λ p. is_some (rule (words p))) c.args.parts.now c.loop-part.part-index record { ref_ptr = (0, 0); now = [] } c.loop-part-test.true (ap is_some none)) (λ w is. cc)

pub loop-part-preserved : goal.loop-part-preserved
loop-part-preserved g c =
    let some = sym c.in_ok-read.ensures ∙ c.in_ok-needed.ensures in
    record {
      reads = part_passes (λ p. is_some (rule (words p))) c.args.parts.now c.loop-part.part-index record { ref_ptr = (0, 0); now = [] } c.loop-part-test.true (ap is_some some) c.loop-part.invariant.reads;
      same = c.in_ok-push.ensures.items ∙ ap (λ l. l ++ c.in_ok-needed.field-0 ∷ []) c.loop-part.invariant.same
          ∙ sym (part_gives (λ p. rule (words p)) c.args.parts.now c.loop-part.part-index record { ref_ptr = (0, 0); now = [] } c.in_ok-needed.field-0 c.loop-part-test.true some);
    }
