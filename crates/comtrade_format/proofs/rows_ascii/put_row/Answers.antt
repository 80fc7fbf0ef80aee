use Rattle.std.proofs.Common.{rules, append_assoc}
use Rattle.std.proofs.lemmas.Result.{IfOk-equal}
use Rattle.comtrade_format.proofs.Lines.{fields_line-parts}
use Rattle.comtrade_format.proofs.rows_ascii.put_row.Goals as goal

pub returns : goal.returns
returns g c = rw fields_line-parts (search (rules, IfOk-equal, append_assoc))
