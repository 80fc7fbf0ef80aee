use Rattle.std.proofs.Common.{◌∙◌, arith}
use Rattle.std.proofs.lemmas.Result.{err_from_is_err_and}
use Rattle.comtrade_read.specs.Ascii.{row_line}
use Rattle.comtrade_read.proofs.LineByLine.{starts, goes_on, stops, ends}
use Rattle.comtrade_read.proofs.ascii.rows_of.Goals as goal

pub loop-i-init : goal.loop-i-init
loop-i-init g c = starts (λ before. row_line c.args.k c.args.m) c.args.count _ c.args.left.now c.in_ok-list.ensures.items

pub returns-in_err-next_row : goal.returns-in_err-next_row
returns-in_err-next_row g c =
    let p = err_from_is_err_and c.from_residual-in_err-next_row.result c.from_residual-in_err-next_row.ensures.1 in
    rw (p.1, p.2) (λ n. c.loop-i.invariant ∙ stops (λ before. row_line c.args.k c.args.m) c.args.count c.loop-i.i c.loop-i.list.items c.loop-i.left _ c.loop-i-test.true (c.in_err-next_row.ensures n))

pub loop-i-preserved : goal.loop-i-preserved
loop-i-preserved g c =
    rw c.in_ok-push.ensures.items (c.loop-i.invariant ∙ goes_on (λ before. row_line c.args.k c.args.m) c.args.count c.loop-i.i c.loop-i.list.items c.loop-i.left _ c.in_ok-next_row.field-0 c.loop-i-test.true c.in_ok-next_row.ensures)

pub returns : goal.returns
returns g c = c.loop-i.invariant ∙ ends (λ before. row_line c.args.k c.args.m) c.args.count c.loop-i.i c.loop-i.list.items c.loop-i.left (omega arith)
