use Rattle.std.proofs.Common.{rules, inl, inr, refl, ◌∙◌}
use Rattle.dfr_station.proofs.Redating.{last_change}
use Rattle.dfr_station.proofs.Finished.{none_open, one_open, finishes_open}
use Rattle.dfr_station.proofs.finish.with_open.Goals as goal
use Rattle.dfr_station.proofs.finish.with_open.Goals.{else-is_closed-via-else-is_closed, else-is_closed-via-then-is_closed+in-None-1}

pub returns : goal.returns
returns g c =
    let closed = c.is_closed.ensures in
    let layout = c.layout-layout.ensures ∙ c.in-Some.ensures.opening.0 ∙ closed.layout in
    finishes_open g.K.Store.stores c.args.kind c.args.times.now c.args.recorder.now c.args.counts c.args.store.now _ _ _
    c.if-not-is_recording.ensures.value closed.lost.0 c.is_closed.new.recorder closed.lost.1
    (inl (c.in-Some.taken, none_open _ c.if-is_closed.ensures.closed, c.in-Some.ensures.step, rw (c.last_redated-redated.ensures, c.extent.ensures.value, layout) at c.written.ensures))

pub returns-2 : goal.returns-2
returns-2 g c =
    let closed = c.is_closed.ensures in
    finishes_open g.K.Store.stores c.args.kind c.args.times.now c.args.recorder.now c.args.counts c.args.store.now _ _ _
    c.if-not-is_recording.ensures.value closed.lost.0 c.is_closed.new.recorder closed.lost.1
    (inr (
      rw c.saturating_add.ensures refl,
      refl,
      elim c.else-is_closed.branch [
        | else-is_closed-via-else-is_closed w ↦ inl (one_open _ w.if-is_closed.ensures.closed, w.recorder-is)
        | else-is_closed-via-then-is_closed+in-None-1 w ↦ inr (search rules)
      ],
    ))

pub written-requires-clause-redated : goal.written-requires-clause-redated
written-requires-clause-redated g c =
    last_change c.args.times.now c.layout-layout.result.now c.in-Some.taken.extent c.last_redated-redated.result
    (rw c.extent.ensures.value at c.last_redated-redated.ensures)
