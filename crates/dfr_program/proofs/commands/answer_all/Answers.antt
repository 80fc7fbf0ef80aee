use Rattle.std.proofs.Common.{Err, map, rules}
use Rattle.std.proofs.lemmas.Iterator.Adapters.{YieldsList-from_vec}
use Rattle.dfr_script.specs.Commands.{parts_of}
use Rattle.dfr_program.proofs.Answering.{ran_none, ran_next, all_done, all_stopped, prints_sent, map_push, next_at, all_given}
use Rattle.dfr_program.proofs.commands.answer_all.Goals as goal

pub loop-command-init : goal.loop-command-init
loop-command-init g c = ran_none c.args.kind c.args.recorder (g.W.Write.contents c.args.w.now) c.args.out.now.items

pub loop-command-preserved : goal.loop-command-preserved
loop-command-preserved g c =
    ran_next (tt {0}) c.args.kind c.args.recorder c.loop-command.recorder c.answer.new.recorder (map parts_of c.loop-command.yielded) _ (parts_of c.in-Some.command) _ _ _ _ _ _
    c.loop-command.invariant (prints_sent (tt {0}) _ _ _ _ _ _ _ _ _ _ _ c.in_ok-answer.ensures c.in_ok-flush_if_full.ensures.printed c.in_ok-flush_if_full.ensures.fault) (map_push parts_of c.loop-command.yielded c.in-Some.command)

pub returns-in_err-answer : goal.returns-in_err-answer
returns-in_err-answer g c =
    let all = YieldsList-from_vec {s = c.into_iter-command-iterator.result} c.args.commands.items (search rules) (search rules) in
    all_stopped c.from_residual.result c.in_err-answer.field-0.0 c.args.kind c.args.recorder c.loop-command.recorder c.answer.new.recorder (map parts_of c.loop-command.yielded) _ (map parts_of c.args.commands.items) (parts_of c.in-Some.command) _ _ _ _ _ _ c.loop-command.invariant
    (next_at parts_of all c.loop-command.yielded c.loop-command.command-iterator c.loop-command.yielded_by c.next.result c.next.new.self c.in-Some.command c.in-Some.is c.next.ensures.steps) c.in_err-answer.ensures c.from_residual.ensures.1

pub returns-in_err-flush_if_full : goal.returns-in_err-flush_if_full
returns-in_err-flush_if_full g c =
    let all = YieldsList-from_vec {s = c.into_iter-command-iterator.result} c.args.commands.items (search rules) (search rules) in
    all_stopped {V = Unit {0}} c.from_residual-in_err-flush_if_full.result c.in_err-flush_if_full.field-0.0 c.args.kind c.args.recorder c.loop-command.recorder c.answer.new.recorder (map parts_of c.loop-command.yielded) _ (map parts_of c.args.commands.items) (parts_of c.in-Some.command) _ _ _ _ _ _ c.loop-command.invariant
    (next_at parts_of all c.loop-command.yielded c.loop-command.command-iterator c.loop-command.yielded_by c.next.result c.next.new.self c.in-Some.command c.in-Some.is c.next.ensures.steps) (prints_sent (tt {0}) (Err c.in_err-flush_if_full.field-0.0) _ _ _ _ _ _ _ _ _ _ c.in_ok-answer.ensures c.in_err-flush_if_full.ensures.printed c.in_err-flush_if_full.ensures.fault) c.from_residual-in_err-flush_if_full.ensures.1

pub returns : goal.returns
returns g c =
    let all = YieldsList-from_vec {s = c.into_iter-command-iterator.result} c.args.commands.items (search rules) (search rules) in
    all_done (tt {0}) c.args.kind c.args.recorder c.loop-command.recorder (map parts_of c.loop-command.yielded) (map parts_of c.args.commands.items) _ _ _ _ c.loop-command.invariant
    (all_given parts_of all c.loop-command.yielded c.loop-command.command-iterator c.loop-command.yielded_by c.next.result c.next.new.self c.in-None.is c.next.ensures.steps)
