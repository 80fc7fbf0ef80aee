use Rattle.std.proofs.Common.{◌≡◌, None, sym, ap, ◌∙◌}
use Rattle.dfr_channels.specs.Firing.{rules_fault}
use Rattle.dfr_program.proofs.Answering.{on_ok_map, puts_rules}
use Rattle.dfr_program.proofs.commands.answer_rules.Goals as goal

pub returns-in-Ok-set_rules : goal.returns-in-Ok-set_rules
returns-in-Ok-set_rules g c =
    let fault : rules_fault c.args.recorder.now.layout c.args.list.items ≡ None = ap (λ l. rules_fault l c.args.list.items) (sym c.layout.ensures) ∙ c.in-Ok.ensures.made.0 in
    on_ok_map c.put.result c.put.ensures
    (λ e. puts_rules c.args.recorder.now c.set_rules.new.self c.args.list.items c.in-Ok.rules c.args.line.now.items c.put.new.out.items fault c.in-Ok.ensures.made.1 c.in-Ok-set_rules.ensures.ok e)
