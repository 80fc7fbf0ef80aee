use Rattle.std.proofs.Common.{[], ◌∷◌, refl, sym}
use Rattle.dfr_station.specs.Arrivals.{HandsNext}
use Rattle.dfr_station.specs.Lines as came
use Rattle.dfr_station.specs.declared.intake.arrivals.Next.TheVariants as coming
use Rattle.dfr_station.proofs.Acquired.{quiet_more, quiet_gap, gives_some, gives_gap, gives_end, reads_more, tells_more}
use Rattle.dfr_station.proofs.Handing.{came_same}
use Rattle.dfr_station.proofs.acquisition.AcquisitionIntakeRecording.next.Goals as goal

pub returns-in-Some-step_of : goal.returns-in-Some-step_of
returns-in-Some-step_of g c =
    gives_some (HandsNext g.I.Read.remaining) c.args.self.now _ c.loop.self c.step_of.new.self c.next-in-loop.new.self (coming.Arrival c.in-Arrival.arrival) c.in-Some-step_of.fed
    c.self-in-loop.view_is c.loop.invariant.2 c.in-Arrival.ensures.next c.in-Some-step_of.ensures

pub loop-preserved-in_default : goal.loop-preserved-in_default
loop-preserved-in_default g c = (
  tt,
  tt,
  quiet_more (HandsNext g.I.Read.remaining) _ _ c.loop.self c.step_of.new.self c.next-in-loop.new.self (coming.Arrival c.in-Arrival.arrival)
      c.self-in-loop.view_is c.loop.invariant.2 c.in-Arrival.ensures.next (rw c.in_default.is at c.step_of.ensures),
)

pub loop-preserved : goal.loop-preserved
loop-preserved g c = (
  tt,
  tt,
  quiet_more (HandsNext g.I.Read.remaining) _ _ c.loop.self _ c.next-in-loop.new.self coming.Drained
      c.self-in-loop.view_is c.loop.invariant.2 c.in-Drained.ensures.next (refl, c.publish.ensures, refl),
)

pub returns-in-End : goal.returns-in-End
returns-in-End g c =
    rw c.end.ensures (gives_end (HandsNext g.I.Read.remaining) c.args.self.now _ c.loop.self _ c.in-End.ending
    c.self-in-loop.view_is c.loop.invariant.2 c.in-End.ensures.next c.publish-in-End.ensures refl)

pub returns-then-is_dated : goal.returns-then-is_dated
returns-then-is_dated g c =
    gives_gap (HandsNext g.I.Read.remaining) c.args.self.now _ c.loop.self _ c.lose.result
    c.self-in-loop.view_is c.loop.invariant.2 c.in-Gap.ensures.next (sym c.if-is_dated.ensures) c.lose.ensures refl

pub loop-preserved-else-is_dated : goal.loop-preserved-else-is_dated
loop-preserved-else-is_dated g c = (
  tt,
  tt,
  quiet_gap (HandsNext g.I.Read.remaining) _ _ c.loop.self c.next-in-loop.new.self
      c.self-in-loop.view_is c.loop.invariant.2 c.in-Gap.ensures.next (sym c.if-is_dated.ensures),
)

pub loop-preserved-in-Read : goal.loop-preserved-in-Read
loop-preserved-in-Read g c = (
  tt,
  tt,
  reads_more (HandsNext g.I.Read.remaining) _ _ c.loop.self c.find_gap.new.self
      c.self-in-loop.view_is c.loop.invariant.2
      (came_same g.I.Read.remaining _ c.next-in-loop.new.self c.find_gap.new.self.incoming [] c.in-Read.ensures.next c.find_gap.ensures.1 c.find_gap.ensures.2 c.find_gap.ensures.3)
      (rw c.find_gap.ensures.0 refl) (rw c.find_gap.ensures.0 refl),
)

pub loop-preserved-in-Arrival-Time : goal.loop-preserved-in-Arrival-Time
loop-preserved-in-Arrival-Time g c =
    let at = c.in-Arrival-Time in (
      tt,
      tt,
      tells_more (HandsNext g.I.Read.remaining) _ _ c.loop.self c.hear_time.new.self at.line at.instant
          c.self-in-loop.view_is c.loop.invariant.2
          (came_same g.I.Read.remaining _ c.next-in-loop.new.self c.hear_time.new.self.incoming (came.Time at.line at.instant ∷ []) (rw at.field-0-is at at.ensures.next) c.hear_time.ensures.1 c.hear_time.ensures.2 c.hear_time.ensures.3)
          (rw c.hear_time.ensures.0 refl) (rw c.hear_time.ensures.0 refl),
    )
