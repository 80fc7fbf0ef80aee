use Rattle.comtrade_read.proofs.PlainRows.{stamp_read}
use Rattle.comtrade_read.proofs.plain_rows.next_stamp.Goals as goal

pub returns : goal.returns
returns c = stamp_read _ _ _ c.in_ok-stamp.ensures
