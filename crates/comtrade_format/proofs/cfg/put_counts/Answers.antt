use Rattle.std.proofs.Common.{rules, append_assoc}
use Rattle.std.proofs.lemmas.Result.{IfOk-equal}
use Rattle.comtrade_format.specs.Cfg.{counts_fields}
use Rattle.comtrade_format.specs.Lines.{field}
use Rattle.comtrade_format.proofs.Lines.{line-cons, line-last}
use Rattle.comtrade_format.proofs.cfg.put_counts.Goals as goal

pub returns : goal.returns
unfolding counts_fields field
returns g c = simp (line-cons, line-last) (search (rules, IfOk-equal, append_assoc))
