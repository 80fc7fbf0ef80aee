use Rattle.std.proofs.Common.{sym, length, map, rules}
use Rattle.std.proofs.lemmas.List.{length-map}
use Rattle.std.proofs.lemmas.Iterator.Adapters.{YieldsList-from_vec}
use Rattle.std.proofs.lemmas.Result.{err_from_is_err_and}
use Rattle.dfr_script.specs.Commands.{parts_of}
use Rattle.dfr_program.proofs.Answering.{map_push, next_at, all_given}
use Rattle.dfr_program.specs.Plans.{IsPlanned, given, placed}
use Rattle.dfr_program.proofs.Planning.{planned_none, planned_next, planned_all, planned_stop}
use Rattle.dfr_program.proofs.plan.plan_all.Goals as goal

pub loop-command-init : goal.loop-command-init
loop-command-init g c = planned_none c.args.layout.now _ _ (search rules) (search rules)

pub loop-command-preserved : goal.loop-command-preserved
loop-command-preserved g c =
    planned_next c.args.layout.now (map parts_of c.loop-command.yielded) _ (parts_of c.in-Some.command) _ _ _ _
    (length c.loop-command.scans.items) c.loop-command.invariant c.in_ok-plan_one.ensures.0 c.in_ok-plan_one.ensures.1 (sym (length-map c.loop-command.scans.items given)) c.in_ok-plan_one.ensures.2 (map_push parts_of c.loop-command.yielded c.in-Some.command)

pub returns : goal.returns
returns g c =
    let all = YieldsList-from_vec {s = c.into_iter-command-iterator.result} c.args.commands.items (search rules) (search rules) in
    planned_all c.args.layout.now (map parts_of c.loop-command.yielded) (map parts_of c.args.commands.items) _ _ c.loop-command.invariant
    (all_given parts_of all c.loop-command.yielded c.loop-command.command-iterator c.loop-command.yielded_by c.next.result c.next.new.self c.in-None.is c.next.ensures.steps)

pub returns-in_err-plan_one : goal.returns-in_err-plan_one
returns-in_err-plan_one g c =
    let all = YieldsList-from_vec {s = c.into_iter-command-iterator.result} c.args.commands.items (search rules) (search rules) in
    let at = next_at parts_of all c.loop-command.yielded c.loop-command.command-iterator c.loop-command.yielded_by c.next.result c.next.new.self c.in-Some.command c.in-Some.is c.next.ensures.steps in
    let p = err_from_is_err_and c.from_residual.result c.from_residual.ensures.1 in
    planned_stop (λ _. IsPlanned c.args.layout.now (map parts_of c.args.commands.items) (map given c.plan_one.new.scans.items) (map placed c.plan_one.new.orders.items)) c.from_residual.result p.0 c.args.layout.now (map parts_of c.loop-command.yielded) (map parts_of c.args.commands.items) _ (parts_of c.in-Some.command) c.in_err-plan_one.field-0.0 _ _
    c.loop-command.invariant at c.in_err-plan_one.ensures p.1 p.2
