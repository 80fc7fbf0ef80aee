use Rattle.std.proofs.Common.{◌≡◌, length, slice_get, Some, refl, sym, ◌∙◌}
use Rattle.std.proofs.lemmas.Option.{slice_get_read}
use Rattle.comtrade_analysis.proofs.PhasesFound.{sequence_made}
use Rattle.comtrade_analysis.proofs.sequences.sequence_at.Goals as goal

pub returns : goal.returns
returns g c =
    let channels = c.args.channels.now in
    let one = c.in_ok-one.one.now in
    let at : slice_get channels c.args.place ≡ Some one = slice_get_read channels (length channels) c.args.place one refl c.requires c.in_ok-one.ensures.lookup.1 in
    sequence_made channels c.args.place one c.in_ok-b.b c.in_ok-c.c c.partner_of-3.result at (sym c.has_phase.ensures ∙ c.if-not-has_phase.false)
    (sym c.partner_of.ensures ∙ c.in_ok-b.was) (sym c.partner_of-2.ensures ∙ c.in_ok-c.was) (sym c.partner_of-3.ensures)
