use Rattle.std.proofs.Common.{◌∙◌, sym, ap}
use Rattle.dfr_channels.specs.Parts.{SetupParts}
use Rattle.dfr_setup.specs.Quantities.{reach, window_in}
use Rattle.dfr_setup.specs.Tests.{condition_of}
use Rattle.dfr_setup.proofs.Made.{settled}
use Rattle.dfr_setup.proofs.plan.settings_of.Goals as goal

pub returns-clause-value : goal.returns-clause-value
returns-clause-value g c =
    c.checked.ensures.value
    ∙ sym (settled c.args.setup.now c.args.wish.now c.args.multiplier c.args.largest c.in_ok-a.a c.one_of-one.result c.in_ok-level.level c.in_ok-reset.reset c.in_ok-least.least
    c.in_ok-cycles.cycles c.in_ok-scans.scans c.reach-most.result c.periods.result c.condition_of.result
    c.level_in.result c.level_in-2.result c.least_in.result c.cycles_in.result c.window_in-window.result
    (c.reach-most.ensures ∙ ap (λ (s : SetupParts). reach c.args.wish.now.test c.args.largest s.rate) c.setup.view_is) c.one_of-one.ensures c.periods.ensures
    (c.condition_of.ensures ∙ ap (λ (s : SetupParts). condition_of c.args.wish.now.test c.in_ok-cycles.cycles s.rate c.in_ok-least.least) c.setup.view_is)
    c.in_ok-a.ensures c.level_in.ensures c.in_ok-level.ensures c.level_in-2.ensures c.in_ok-reset.ensures c.least_in.ensures c.in_ok-least.ensures c.cycles_in.ensures.value c.in_ok-cycles.ensures
    (c.window_in-window.ensures ∙ ap (λ (s : SetupParts). window_in c.args.wish.now.window c.periods.result s.rate s.line_freq) c.setup.view_is) c.in_ok-scans.ensures)
