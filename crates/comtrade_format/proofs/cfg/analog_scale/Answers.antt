use Rattle.std.proofs.Common.{rules, append_assoc}
use Rattle.std.proofs.lemmas.Result.{IfOk-equal}
use Rattle.comtrade_format.proofs.cfg.analog_scale.Goals as goal

pub returns : goal.returns
returns g c = search (rules, IfOk-equal, append_assoc)
