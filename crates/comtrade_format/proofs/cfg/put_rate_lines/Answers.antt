use Rattle.std.proofs.Common.{rules, append_assoc}
use Rattle.std.proofs.lemmas.Result.{IfOk-equal}
use Rattle.comtrade_format.specs.Cfg.{rate_lines}
use Rattle.comtrade_format.proofs.cfg.put_rate_lines.Goals as goal

pub returns : goal.returns
unfolding rate_lines
returns g c = search (rules, IfOk-equal, append_assoc)
