use Rattle.std.proofs.Common.{rules, append_assoc}
use Rattle.std.proofs.lemmas.List.Concat.{flat_map-append}
use Rattle.comtrade_format.specs.Cfg.{channel_lines}
use Rattle.comtrade_format.proofs.cfg.put_channels.Goals as goal

pub returns : goal.returns
unfolding channel_lines
returns g c = search (rules, append_assoc, flat_map-append)
