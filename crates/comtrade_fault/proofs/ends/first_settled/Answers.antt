use Rattle.std.proofs.Common.{sym, ◌∙◌, arith}
use Rattle.comtrade_fault.specs.Settling.{settled}
use Rattle.comtrade_fault.proofs.FirstRows.{first_pass, first_hit, first_end}
use Rattle.comtrade_fault.proofs.ends.first_settled.Goals as goal

pub loop-row-preserved : goal.loop-row-preserved
loop-row-preserved c =
    let passes = settled c.args.scans.now c.args.weights c.args.signal c.args.bounds c.args.cycle c.args.both in
    c.loop-row.invariant ∙ first_pass passes c.loop-row.row c.args.end (omega arith) (sym c.is_settled.ensures ∙ c.if-is_settled.false)

pub returns : goal.returns
returns c =
    let passes = settled c.args.scans.now c.args.weights c.args.signal c.args.bounds c.args.cycle c.args.both in
    sym (c.loop-row.invariant ∙ first_end passes c.loop-row.row c.args.end (omega arith))

pub returns-then-is_settled : goal.returns-then-is_settled
returns-then-is_settled c =
    let passes = settled c.args.scans.now c.args.weights c.args.signal c.args.bounds c.args.cycle c.args.both in
    sym (c.loop-row.invariant ∙ first_hit passes c.loop-row.row c.args.end (omega arith) (sym c.is_settled.ensures ∙ c.if-is_settled.true))
