use Rattle.std.proofs.Common.{rules, append_assoc}
use Rattle.std.proofs.lemmas.Result.{IfOk-equal}
use Rattle.comtrade_format.specs.Binary.{row_bytes}
use Rattle.comtrade_format.proofs.rows_binary.put_row.Goals as goal

pub returns : goal.returns
unfolding row_bytes
returns g c = search (rules, IfOk-equal, append_assoc)
