use Rattle.std.proofs.Common.{ap}
use Rattle.comtrade_values.specs.Lines.{lines}
use Rattle.dfr_recorder.specs.Kept.{Kept}
use Rattle.dfr_script.specs.Scripts.{script_value}
use Rattle.dfr_program.proofs.Living.{if_ok_map, tells_run, only_front}
use Rattle.dfr_program.proofs.live.run_script.Goals as goal

pub returns-in-Ok-clause-text : goal.returns-in-Ok-clause-text
returns-in-Ok-clause-text g c =
    let s = script_value (lines c.args.script.now) in
    if_ok_map _ _ c.run_plan.result c.run_plan.ensures.text (λ told p.
    tells_run _ _ _ s c.in-Ok.plan.recorder told.done told.text.items c.in-Ok.ensures.0 c.in-Ok.ensures.1
    (p s (ap (λ (k : Kept). k.scans) c.in-Ok.ensures.1.fresh) c.in-Ok.ensures.2 c.in-Ok.ensures.3))

pub returns-in-Ok-clause-front : goal.returns-in-Ok-clause-front
returns-in-Ok-clause-front g c =
    only_front g.K.Sink.puts c.args.kind (script_value (lines c.args.script.now)) c.in-Ok.plan.recorder c.args.sink.now c.run_plan.new.sink
    c.in-Ok.ensures.1 c.run_plan.ensures.front
