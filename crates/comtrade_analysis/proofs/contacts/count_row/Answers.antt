use Rattle.std.proofs.Common.{◌≡◌, ℕ, ◌+◌, ◌<◌, length, get_or, List, sym, ap, ◌∙◌, arith}
use Rattle.std.specs.Option.{option_to_list}
use Rattle.comtrade_analysis.specs.Contacts.{contact_events}
use Rattle.comtrade_analysis.specs.Events.{event_at}
use Rattle.comtrade_analysis.specs.declared.events.Event.{Event}
use Rattle.comtrade_analysis.proofs.InPlace.{written, unwritten}
use Rattle.comtrade_analysis.proofs.MoreContacts.{events_same, count_more, few_events}
use Rattle.comtrade_analysis.proofs.contacts.count_row.Goals as goal

pub returns-then-not-has_other_bits : goal.returns-then-not-has_other_bits
returns-then-not-has_other_bits g c = λ contact d lt.
    let rows = c.args.rows.now in
    let row = c.args.row in
    c.requires.before contact d lt
    ∙ ap (λ (xs : List Event). length xs) (sym (events_same rows contact row c.requires.some (c.has_other_bits.ensures c.if-not-has_other_bits.true contact)))

pub counted-requires : goal.counted-requires
counted-requires g c =
    let i = c.loop-contact.contact in
    let is : get_or c.loop-contact.counts i 0 ≡ length (contact_events c.args.rows.now i c.args.row) = c.loop-contact.invariant.rest i 0 (omega arith) (omega arith) in
    omega (arith, is, few_events c.args.rows.now i c.args.row)

pub loop-contact-preserved : goal.loop-contact-preserved
loop-contact-preserved g c =
    let rows = c.args.rows.now in
    let row = c.args.row in
    let i = c.loop-contact.contact in
    let xs = c.loop-contact.counts in
    let within : i < length xs = omega arith in
    let old : get_or xs i 0 ≡ length (contact_events rows i row) = c.loop-contact.invariant.rest i 0 (omega arith) within in
    let event : length (option_to_list c.event_at.result) ≡ length (option_to_list (event_at rows row i)) = ap (λ o. length (option_to_list o)) c.event_at.ensures in
    let new : c.counted.result ≡ length (contact_events rows i (row + 1)) = omega (arith, c.counted.ensures, old, event, count_more rows i row c.requires.some) in
    record {
      done = written xs i c.counted.result (λ (k v : ℕ). v ≡ length (contact_events rows k (row + 1))) within c.loop-contact.invariant.done new;
      rest = unwritten xs i c.counted.result (λ (k v : ℕ). v ≡ length (contact_events rows k row)) c.loop-contact.invariant.rest;
    }
