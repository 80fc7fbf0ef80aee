use Rattle.std.proofs.Common.{ap, ◌∙◌}
use Rattle.dfr_recorder.specs.History.{Opening}
use Rattle.dfr_live.proofs.Placing.{handed_on, handed_none, handed_fails}
use Rattle.dfr_live.proofs.export.hand_on.Goals as goal

pub returns-clause-on : goal.returns-clause-on
returns-clause-on g c = handed_on g.K.Outlet.puts g.K.Outlet.lacks c.args.shared.now c.args.kind c.layout.result.now c.args.outlet.now c.hand_taken.new.outlet c.args.token.now c.take_noted-taken.new.token c.args.gone.now c.take_noted-taken.new.gone c.take_noted-taken.result c.hand_taken.result (c.layout.ensures ∙ ap (λ (x : Opening). x.layout) c.opening.ensures) c.take_noted-taken.ensures.noted c.take_noted-taken.ensures.gone c.hand_taken.ensures

pub returns-clause-none : goal.returns-clause-none
returns-clause-none g c = handed_none g.K.Outlet.puts g.K.Outlet.lacks c.args.shared.now c.args.kind c.layout.result.now c.args.outlet.now c.hand_taken.new.outlet c.args.token.now c.take_noted-taken.new.token c.take_noted-taken.result c.hand_taken.result (c.layout.ensures ∙ ap (λ (x : Opening). x.layout) c.opening.ensures) c.take_noted-taken.ensures.noted c.hand_taken.ensures

pub returns-clause-fault : goal.returns-clause-fault
returns-clause-fault g c = handed_fails g.K.Outlet.puts g.K.Outlet.lacks c.args.shared.now c.args.kind c.layout.result.now c.args.outlet.now c.hand_taken.new.outlet c.args.token.now c.take_noted-taken.new.token c.take_noted-taken.result c.hand_taken.result (c.layout.ensures ∙ ap (λ (x : Opening). x.layout) c.opening.ensures) c.take_noted-taken.ensures.noted c.hand_taken.ensures
