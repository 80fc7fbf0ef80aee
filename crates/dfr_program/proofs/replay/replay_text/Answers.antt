use Rattle.std.proofs.Common.{inl, inr, rules}
use Rattle.comtrade_values.specs.Lines.{lines}
use Rattle.dfr_script.specs.Scripts.{script_value}
use Rattle.dfr_program.specs.Faults.{script_fault}
use Rattle.dfr_program.proofs.Replaying.{replayed, replayed_grows, replayed_fault, replayed_answers, replayed_memory, replayed_output, faulted_output, never_done}
use Rattle.dfr_program.proofs.replay.replay_text.Goals as goal

pub returns-in-Ok-clause-grows : goal.returns-in-Ok-clause-grows
returns-in-Ok-clause-grows g c =
    let made = rw c.deref.ensures.value at c.in-Ok.ensures in
    replayed_grows c.run_commands.result c.args.kind (script_value (lines c.args.text.items)) (g.W.Write.contents c.args.w.now) (g.W.Write.contents c.run_commands.new.w) (replayed c.run_commands.result c.args.kind _ c.in-Ok.prepared.recorder _ (g.W.Write.contents c.args.w.now) (g.W.Write.contents c.run_commands.new.w) made.1 made.2 c.run_commands.ensures.printed)

pub returns-in-Ok-clause-fault : goal.returns-in-Ok-clause-fault
returns-in-Ok-clause-fault g c =
    let made = rw c.deref.ensures.value at c.in-Ok.ensures in
    replayed_fault c.run_commands.result c.args.kind (script_value (lines c.args.text.items)) (g.W.Write.contents c.args.w.now) (g.W.Write.contents c.run_commands.new.w) (replayed c.run_commands.result c.args.kind _ c.in-Ok.prepared.recorder _ (g.W.Write.contents c.args.w.now) (g.W.Write.contents c.run_commands.new.w) made.1 made.2 c.run_commands.ensures.printed)

pub returns-in-Ok-clause-answers : goal.returns-in-Ok-clause-answers
returns-in-Ok-clause-answers g c =
    let made = rw c.deref.ensures.value at c.in-Ok.ensures in
    replayed_answers c.run_commands.result c.args.kind (script_value (lines c.args.text.items)) (g.W.Write.contents c.args.w.now) (g.W.Write.contents c.run_commands.new.w) (replayed c.run_commands.result c.args.kind _ c.in-Ok.prepared.recorder _ (g.W.Write.contents c.args.w.now) (g.W.Write.contents c.run_commands.new.w) made.1 made.2 c.run_commands.ensures.printed)

pub returns-in-Ok-clause-memory : goal.returns-in-Ok-clause-memory
returns-in-Ok-clause-memory g c e =
    let made = rw c.deref.ensures.value at c.in-Ok.ensures in
    inr (replayed_memory c.run_commands.result c.args.kind (script_fault c.args.text.items) (script_value (lines c.args.text.items)) (g.W.Write.contents c.args.w.now) (g.W.Write.contents c.run_commands.new.w) (replayed c.run_commands.result c.args.kind _ c.in-Ok.prepared.recorder _ (g.W.Write.contents c.args.w.now) (g.W.Write.contents c.run_commands.new.w) made.1 made.2 c.run_commands.ensures.printed) made.0 e)

pub returns-in-Ok-clause-output : goal.returns-in-Ok-clause-output
returns-in-Ok-clause-output g c =
    let made = rw c.deref.ensures.value at c.in-Ok.ensures in
    replayed_output c.run_commands.result c.args.kind (script_fault c.args.text.items) (script_value (lines c.args.text.items)) (g.W.Write.contents c.args.w.now) (g.W.Write.contents c.run_commands.new.w) (replayed c.run_commands.result c.args.kind _ c.in-Ok.prepared.recorder _ (g.W.Write.contents c.args.w.now) (g.W.Write.contents c.run_commands.new.w) made.1 made.2 c.run_commands.ensures.printed) made.0

pub returns-in-Err-Fault-clause-answers : goal.returns-in-Err-Fault-clause-answers
returns-in-Err-Fault-clause-answers g c = never_done _ c.print_fault.result c.print_fault.ensures.none

pub returns-in-Err-Fault-clause-memory : goal.returns-in-Err-Fault-clause-memory
returns-in-Err-Fault-clause-memory g c e = inl (c.print_fault.ensures.memory e)

pub returns-in-Err-Fault-clause-output : goal.returns-in-Err-Fault-clause-output
returns-in-Err-Fault-clause-output g c e =
    faulted_output c.args.kind (script_fault c.args.text.items) _ (script_value (lines c.args.text.items)) _ _ (c.print_fault.ensures.output e) (search rules)
