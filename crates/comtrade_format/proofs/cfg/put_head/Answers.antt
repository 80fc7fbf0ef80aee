use Rattle.std.proofs.Common.{rules, append_assoc}
use Rattle.std.proofs.lemmas.Result.{IfOk-equal}
use Rattle.std.proofs.lemmas.List.Concat.{flat_map-append}
use Rattle.comtrade_format.specs.Cfg.{cfg, head_lines}
use Rattle.comtrade_format.proofs.cfg.put_head.Goals as goal

pub returns : goal.returns
unfolding cfg head_lines
returns g c = rw (← c.head.view_is) (search (rules, IfOk-equal, append_assoc, flat_map-append))
