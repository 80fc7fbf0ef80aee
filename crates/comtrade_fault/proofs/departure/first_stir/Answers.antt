use Rattle.std.proofs.Common.{sym, ◌∙◌, arith}
use Rattle.comtrade_fault.specs.Departures.{stirs_at}
use Rattle.comtrade_fault.proofs.FirstRows.{first_pass, first_hit, first_end}
use Rattle.comtrade_fault.proofs.departure.first_stir.Goals as goal

pub loop-row-preserved : goal.loop-row-preserved
loop-row-preserved c =
    let passes = stirs_at c.args.scans.now c.args.weights c.args.step c.args.cycle c.args.quiet in
    c.loop-row.invariant ∙ first_pass passes c.loop-row.row c.args.end (omega arith) (sym c.stirs_at.ensures ∙ c.if-stirs_at.false)

pub returns-clause-value : goal.returns-clause-value
returns-clause-value c =
    let passes = stirs_at c.args.scans.now c.args.weights c.args.step c.args.cycle c.args.quiet in
    sym (c.loop-row.invariant ∙ first_end passes c.loop-row.row c.args.end (omega arith))

pub returns-then-stirs_at-clause-value : goal.returns-then-stirs_at-clause-value
returns-then-stirs_at-clause-value c =
    let passes = stirs_at c.args.scans.now c.args.weights c.args.step c.args.cycle c.args.quiet in
    sym (c.loop-row.invariant ∙ first_hit passes c.loop-row.row c.args.end (omega arith) (sym c.stirs_at.ensures ∙ c.if-stirs_at.true))
