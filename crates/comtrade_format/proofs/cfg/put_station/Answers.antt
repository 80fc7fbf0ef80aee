use Rattle.std.proofs.Common.{rules, append_assoc}
use Rattle.std.proofs.lemmas.Result.{IfOk-equal}
use Rattle.comtrade_format.specs.Cfg.{names_fields}
use Rattle.comtrade_format.proofs.Lines.{line-cons, line-last}
use Rattle.comtrade_format.proofs.cfg.put_station.Goals as goal

pub returns : goal.returns
unfolding names_fields
returns g c = simp (line-cons, line-last) (search (rules, IfOk-equal, append_assoc))
