use Rattle.std.proofs.Common.{length, sym, ◌∙◌, arith}
use Rattle.comtrade_fault.specs.Departures.{departs_at}
use Rattle.comtrade_fault.proofs.FirstRows.{first_pass, first_hit, first_end}
use Rattle.comtrade_fault.proofs.departure.departure_from.Goals as goal

pub loop-row-preserved : goal.loop-row-preserved
loop-row-preserved c =
    let passes = departs_at c.args.scans.now c.args.weights c.args.bounds c.args.cycle in
    c.loop-row.invariant ∙ first_pass passes c.loop-row.row (length c.args.scans.now) (omega arith) (sym c.departs_at.ensures ∙ c.if-departs_at.false)

pub returns-clause-value : goal.returns-clause-value
returns-clause-value c =
    let passes = departs_at c.args.scans.now c.args.weights c.args.bounds c.args.cycle in
    sym (c.loop-row.invariant ∙ first_end passes c.loop-row.row (length c.args.scans.now) (omega arith))

pub returns-then-departs_at-clause-value : goal.returns-then-departs_at-clause-value
returns-then-departs_at-clause-value c =
    let passes = departs_at c.args.scans.now c.args.weights c.args.bounds c.args.cycle in
    sym (c.loop-row.invariant ∙ first_hit passes c.loop-row.row (length c.args.scans.now) (omega arith) (sym c.departs_at.ensures ∙ c.if-departs_at.true))
