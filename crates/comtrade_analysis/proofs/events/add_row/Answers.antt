use Rattle.std.proofs.Common.{◌≡◌, ◌+◌, [], ◌∷◌, ◌++◌, sym, ap, ◌∙◌, append_assoc, List, arith}
use Rattle.comtrade_analysis.specs.Events.{event_at, row_events}
use Rattle.comtrade_analysis.specs.declared.events.Event.{Event}
use Rattle.comtrade_analysis.proofs.Ranges.{some_more, none_more}
use Rattle.comtrade_analysis.proofs.events.add_row.Goals as goal
use Rattle.comtrade_analysis.proofs.events.add_row.Goals.{in-Some+in_ok-push, in_default}

pub loop-channel-preserved : goal.loop-channel-preserved
loop-channel-preserved g c =
    let rows = c.args.rows.now in
    let old = c.args.events.now.items in
    let row = c.args.row in
    let n = c.loop-channel.channel in
    elim c.match-event_at.branch [
      | in-Some+in_ok-push w ↦
          let step : row_events rows (n + 1) row ≡ row_events rows n row ++ w.in-Some.event ∷ [] =
          some_more (event_at rows row) 0 n n w.in-Some.event (omega arith) (sym c.event_at.ensures ∙ w.in-Some.is) in
          let whole : (old ++ row_events rows n row) ++ w.in-Some.event ∷ [] ≡ old ++ row_events rows (n + 1) row =
          append_assoc old (row_events rows n row) (w.in-Some.event ∷ []) ∙ ap (λ (xs : List Event). old ++ xs) (sym step) in
          rw (w.events-is, w.in_ok-push.ensures.items, c.loop-channel.invariant) whole
      | in_default w ↦
          let step : row_events rows (n + 1) row ≡ row_events rows n row =
          none_more (event_at rows row) 0 n n (omega arith) (sym c.event_at.ensures ∙ w.in_default.is) in
          rw (w.events-is, c.loop-channel.invariant) (ap (λ (xs : List Event). old ++ xs) (sym step))
    ]
