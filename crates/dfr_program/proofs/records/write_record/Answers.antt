use Rattle.std.proofs.Common.{ℕ, List, [], ◌∷◌, ◌++◌, ◌∙◌, subst}
use Rattle.std.proofs.lemmas.Result.{err_from_is_err_and}
use Rattle.dfr_program.specs.Writing.{Printed}
use Rattle.dfr_program.proofs.Printing.{raised, record_front_cut, record_data_cut, record_printed}
use Rattle.dfr_program.proofs.records.write_record.Goals as goal

pub returns-in_err-send : goal.returns-in_err-send
returns-in_err-send g c =
    let p = err_from_is_err_and c.from_residual-in_err-send.result c.from_residual-in_err-send.ensures.1 in
    record_front_cut c.from_residual-in_err-send.result (g.W.Write.contents c.args.w.now) (g.W.Write.contents c.send.new.w) c.args.out.now.items c.extend_from_slice.new.self.items c.send.new.out.items c.args.line.now c.args.dat.now (10 ∷ [])
    (raised c.from_residual-in_err-send.result p.0 _ p.1 (p.2 ∙ c.in_err-send.ensures.fault)) c.in_ok-extend_from_slice.ensures.items c.in_err-send.ensures.part c.send.ensures.gone

pub returns-in_err-write_out : goal.returns-in_err-write_out
returns-in_err-write_out g c =
    let p = err_from_is_err_and c.from_residual-in_err-write_out.result c.from_residual-in_err-write_out.ensures.1 in
    record_data_cut c.from_residual-in_err-write_out.result (g.W.Write.contents c.args.w.now) (g.W.Write.contents c.send.new.w) (g.W.Write.contents c.write_out.new.w) c.args.out.now.items c.extend_from_slice.new.self.items c.send.new.out.items c.args.line.now c.args.dat.now (10 ∷ [])
    (raised c.from_residual-in_err-write_out.result p.0 _ p.1 (p.2 ∙ c.in_err-write_out.ensures.fault)) c.in_ok-extend_from_slice.ensures.items c.in_ok-send.ensures.all c.in_err-write_out.ensures.part c.send.ensures.gone

pub returns : goal.returns
returns g c =
    subst (λ (v : List ℕ). Printed c.write_out-2.result (g.W.Write.contents c.args.w.now) c.args.out.now.items (g.W.Write.contents c.write_out-2.new.w) c.send.new.out.items (c.args.line.now ++ c.args.dat.now ++ v)) c.as_bytes.ensures.value
    (record_printed c.write_out-2.result (g.W.Write.contents c.args.w.now) (g.W.Write.contents c.send.new.w) (g.W.Write.contents c.write_out.new.w) (g.W.Write.contents c.write_out-2.new.w) c.args.out.now.items c.extend_from_slice.new.self.items c.send.new.out.items c.args.line.now c.args.dat.now c.as_bytes.result.now
    c.in_ok-extend_from_slice.ensures.items c.in_ok-send.ensures.all c.in_ok-write_out.ensures.all c.write_out-2.ensures.all c.write_out-2.ensures.part c.write_out-2.ensures.fault c.send.ensures.gone)
