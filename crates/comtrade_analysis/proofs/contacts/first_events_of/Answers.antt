use Rattle.std.proofs.Common.{◌≡◌, ◌+◌, ◌<◌, ◌≤◌, List, [], ◌∷◌, ◌++◌, length, take, Option, Some, None, sym, ap, ◌∙◌, arith}
use Rattle.std.specs.Option.{option_to_list}
use Rattle.comtrade_analysis.specs.Events.{event_at}
use Rattle.comtrade_analysis.specs.Contacts.{contact_events}
use Rattle.comtrade_analysis.specs.declared.events.Event.{Event}
use Rattle.comtrade_analysis.proofs.MoreContacts.{events_more, events_same, first_more, first_full}
use Rattle.comtrade_analysis.proofs.contacts.first_events_of.Goals as goal
use Rattle.comtrade_analysis.proofs.contacts.first_events_of.Goals.{in-Some+then-len-most+in_ok-push, in-Some+else-len-most, in_default}

pub loop-row-preserved : goal.loop-row-preserved
loop-row-preserved g c =
    let rows = c.args.rows.now in
    let contact = c.args.contact in
    let most = c.args.most in
    let n = c.loop-row.row in
    let xs = contact_events rows contact n in
    let before : c.loop-row.events.items ≡ take most xs = c.loop-row.invariant.0 in
    let more : contact_events rows contact (n + 1) ≡ xs ++ option_to_list (event_at rows n contact) = events_more rows contact n (omega arith) in (
      elim c.match-event_at.branch [
        | in-Some+then-len-most+in_ok-push w ↦
            let e = w.in-Some.event in
            let at : event_at rows n contact ≡ Some e = sym c.event_at.ensures ∙ w.in-Some.is in
            let one : contact_events rows contact (n + 1) ≡ xs ++ e ∷ [] = more ∙ ap (λ (o : Option Event). xs ++ option_to_list o) at in
            let room : length (take most xs) < most = omega (arith, ap (λ (ys : List Event). length ys) before) in
            rw (w.events-is, w.in_ok-push.ensures.items, before) (sym (first_more most xs e room) ∙ ap (take most) (sym one))
        | in-Some+else-len-most w ↦
            let full : most ≤ length (take most xs) = omega (arith, ap (λ (ys : List Event). length ys) before) in
            rw (w.events-is, before) (sym (first_full most xs (option_to_list (event_at rows n contact)) full) ∙ ap (take most) (sym more))
        | in_default w ↦
            let at : event_at rows n contact ≡ None = sym c.event_at.ensures ∙ w.in_default.is in
            rw (w.events-is, before) (ap (take most) (sym (events_same rows contact n (omega arith) at)))
      ],
      λ none. absurd (omega arith),
    )
