use Rattle.std.proofs.Common.{rules, append_assoc}
use Rattle.std.proofs.lemmas.Result.{IfOk-equal}
use Rattle.comtrade_format.proofs.Lines.{line-cons, line-last}
use Rattle.comtrade_format.proofs.cfg.kind_line.Goals as goal

pub returns : goal.returns
returns g c = simp (line-cons, line-last) (search (rules, IfOk-equal, append_assoc))
