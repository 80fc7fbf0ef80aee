use Rattle.std.proofs.Common.{rules, append_assoc, append-nil}
use Rattle.std.proofs.lemmas.Result.{IfOk-equal}
use Rattle.comtrade_format.specs.Cfg.{last_lines}
use Rattle.comtrade_format.proofs.cfg.put_last_lines.Goals as goal

pub returns : goal.returns
unfolding last_lines
returns g c = search (rules, IfOk-equal, append_assoc, append-nil)
