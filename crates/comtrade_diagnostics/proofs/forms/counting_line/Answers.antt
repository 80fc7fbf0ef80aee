use Rattle.std.proofs.Common.{refl}
use Rattle.comtrade_diagnostics.proofs.Places.{is_channels}
use Rattle.comtrade_diagnostics.proofs.forms.counting_line.Goals as goal

pub returns-in-Analog : goal.returns-in-Analog
returns-in-Analog c = is_channels c.args.counts 2 refl
