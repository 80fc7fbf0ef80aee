use Rattle.std.proofs.Common.{[], map, ap, ◌∙◌, rules}
use Rattle.std.proofs.lemmas.Result.{err_from_is_err_and}
use Rattle.dfr_script.specs.Commands.{parts_of}
use Rattle.dfr_program.proofs.Printing.{raised}
use Rattle.dfr_program.proofs.Replaying.{written_then, written_whole, written_cut}
use Rattle.dfr_program.proofs.replay.run_commands.Goals as goal

pub returns-in_err-send-clause-printed : goal.returns-in_err-send-clause-printed
returns-in_err-send-clause-printed g c o k =
    let p = err_from_is_err_and c.from_residual.result c.from_residual.ensures.1 in
    written_cut c.from_residual.result c.answer_all-answered.result c.args.kind o (map parts_of c.args.prepared.commands.items) (g.W.Write.contents c.args.w.now) (g.W.Write.contents c.answer_all-answered.new.w) (g.W.Write.contents c.send.new.w) c.new-out.result.items c.answer_all-answered.new.out.items
    (c.answer_all-answered.ensures o [] k) c.new-out.ensures.items c.in_err-send.ensures.part (λ e. ap g.W.Write.contents (c.send.ensures.none e)) (raised c.from_residual.result p.0 _ p.1 (p.2 ∙ c.in_err-send.ensures.fault))

pub returns-in_err-answered-clause-printed : goal.returns-in_err-answered-clause-printed
returns-in_err-answered-clause-printed g c o k =
    let p = err_from_is_err_and c.from_residual-in_err-answered.result c.from_residual-in_err-answered.ensures.1 in
    written_then c.from_residual-in_err-answered.result c.answer_all-answered.result c.args.kind o (map parts_of c.args.prepared.commands.items) (g.W.Write.contents c.args.w.now) (g.W.Write.contents c.answer_all-answered.new.w) (g.W.Write.contents c.send.new.w) c.new-out.result.items c.answer_all-answered.new.out.items
    (c.answer_all-answered.ensures o [] k) c.new-out.ensures.items c.in_ok-send.ensures.all (λ e. ap g.W.Write.contents (c.send.ensures.none e)) c.in_err-answered.field-0.0 (search rules) (raised c.from_residual-in_err-answered.result p.0 _ p.1 p.2)

pub returns-clause-printed : goal.returns-clause-printed
returns-clause-printed g c o k =
    written_whole c.answer_all-answered.result (tt {0}) c.args.kind o (map parts_of c.args.prepared.commands.items) (g.W.Write.contents c.args.w.now) (g.W.Write.contents c.answer_all-answered.new.w) (g.W.Write.contents c.send.new.w) c.new-out.result.items c.answer_all-answered.new.out.items
    (c.answer_all-answered.ensures o [] k) (search rules) c.new-out.ensures.items c.in_ok-send.ensures.all
