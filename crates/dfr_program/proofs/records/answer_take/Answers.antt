use Rattle.std.proofs.Common.{rules, ◌∙◌}
use Rattle.dfr_program.proofs.Answering.{prints_record, prints_none}
use Rattle.dfr_program.proofs.records.answer_take.Goals as goal

pub returns-in_ok-pair-in-Some : goal.returns-in_ok-pair-in-Some
returns-in_ok-pair-in-Some g c =
    prints_record c.print_record.result c.args.kind c.args.recorder.now c.take.new.self c.in-Some.record c.layout.result.now c.extent.result c.in_ok-pair-in-Some.pair.cfg.items c.in_ok-pair-in-Some.pair.dat.items _ _ _ _
    c.in-Some.ensures.step (c.layout.ensures ∙ c.take.ensures.opening.0) c.extent.ensures.value c.in_ok-pair-in-Some.ensures.cfg c.in_ok-pair-in-Some.ensures.dat c.print_record.ensures

pub returns-in_ok-extend_from_slice-in-None : goal.returns-in_ok-extend_from_slice-in-None
returns-in_ok-extend_from_slice-in-None g c =
    prints_none (tt {0}) c.args.kind c.args.recorder.now c.take.new.self (g.W.Write.contents c.args.w.now) _ _ c.in-None.ensures.step (search rules)
