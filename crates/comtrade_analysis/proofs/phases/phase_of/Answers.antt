use Rattle.std.proofs.Common.{◌≡◌, ap, sym, ◌∙◌}
use Rattle.dfr_channels.specs.Parts.{AnalogParts}
use Rattle.comtrade_analysis.proofs.PhaseFields.{by_id, by_phase}
use Rattle.comtrade_analysis.proofs.phases.phase_of.Goals as goal

pub returns-then-is_empty : goal.returns-then-is_empty
returns-then-is_empty g c =
    let channel : AnalogParts = c.args.channel.now in
    let id : c.channel.inside.id ≡ channel.id = ap (λ (p : AnalogParts). p.id) c.channel.view_is in
    let phase : c.channel.inside.phase ≡ channel.phase = ap (λ (p : AnalogParts). p.phase) c.channel.view_is in
    by_id channel c.items.result.now c.trim.result.now c.items-then-is_empty.result.now c.phase_in.result (c.items.ensures ∙ phase) c.trim.ensures
    (sym c.is_empty.ensures ∙ c.if-is_empty.true) (c.items-then-is_empty.ensures ∙ id) c.phase_in.ensures

pub returns-else-is_empty : goal.returns-else-is_empty
returns-else-is_empty g c =
    let channel : AnalogParts = c.args.channel.now in
    let phase : c.channel.inside.phase ≡ channel.phase = ap (λ (p : AnalogParts). p.phase) c.channel.view_is in
    by_phase channel c.items.result.now c.trim.result.now c.items-else-is_empty.result.now c.phase_in-else-is_empty.result (c.items.ensures ∙ phase) c.trim.ensures
    (sym c.is_empty.ensures ∙ c.if-is_empty.false) (c.items-else-is_empty.ensures ∙ phase) c.phase_in-else-is_empty.ensures
