use Rattle.comtrade_read.proofs.OneFile.{one_head, rows_same, one_file}
use Rattle.comtrade_read.proofs.laws.one_file.Goals as goal

pub returns : goal.returns
returns c = record { head = one_head; rows = rows_same; file = one_file }
