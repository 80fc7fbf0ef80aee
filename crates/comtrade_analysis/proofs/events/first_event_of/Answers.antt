use Rattle.std.proofs.Common.{length, sym, ◌∙◌, arith}
use Rattle.comtrade_analysis.proofs.FirstEvents.{first_is, steady_more}
use Rattle.comtrade_analysis.proofs.events.first_event_of.Goals as goal

pub loop-row-init : goal.loop-row-init
loop-row-init g c = λ k some few. absurd (omega arith)

pub loop-row-preserved : goal.loop-row-preserved
loop-row-preserved g c =
    steady_more c.args.rows.now c.args.channel c.loop-row.row c.loop-row.invariant (sym c.event_at.ensures ∙ c.in_default.is)

pub returns : goal.returns
returns g c = λ k some lt. c.loop-row.invariant k some (omega arith)

pub returns-in-Some : goal.returns-in-Some
returns-in-Some g c =
    let rows = c.args.rows.now in
    first_is rows c.args.channel c.loop-row.row (length rows) c.in-Some.event (omega arith) (omega arith) (sym c.event_at.ensures ∙ c.in-Some.is) c.loop-row.invariant
