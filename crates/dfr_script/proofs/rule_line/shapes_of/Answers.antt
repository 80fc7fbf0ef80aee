use Rattle.std.proofs.Common.{◌∙◌, sym, []}
use Rattle.dfr_script.specs.RuleLines.{has_shape, words}
use Rattle.dfr_script.proofs.CutFields.{part_fails, part_passes}
use Rattle.dfr_script.proofs.rule_line.shapes_of.Goals as goal

pub returns-then-not-shaped : goal.returns-then-not-shaped
returns-then-not-shaped g c =
    rw (part_fails (λ p. has_shape (words p)) c.args.parts.now c.loop-part.part-index record { ref_ptr = (0, 0); now = [] } c.loop-part-test.true (sym c.in_ok-shaped.ensures ∙ c.if-not-shaped.true)) (λ w is. cc)

pub loop-part-preserved : goal.loop-part-preserved
loop-part-preserved g c =
    part_passes (λ p. has_shape (words p)) c.args.parts.now c.loop-part.part-index record { ref_ptr = (0, 0); now = [] } c.loop-part-test.true (sym c.in_ok-shaped.ensures ∙ c.if-not-shaped.false) c.loop-part.invariant
