use Rattle.comtrade_read.proofs.PlainRows.{row_of_fields}
use Rattle.comtrade_read.proofs.plain_rows.plain_row.Goals as goal

pub returns : goal.returns
returns g c =
    let values = rw c.in-Some-2.is at c.in_ok-values.ensures in
    let bits = rw c.in-Some-3.is at c.in_ok-bits.ensures in
    rw (c.of.ensures, c.of-2.ensures) (row_of_fields _ _ _ _ c.args.k c.args.m _ _ _ _ c.in-Some.ensures c.in-Some-next_stamp.ensures values bits)
