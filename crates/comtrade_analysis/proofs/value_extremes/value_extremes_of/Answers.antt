use Rattle.std.proofs.Common.{length}
use Rattle.comtrade_analysis.proofs.value_extremes.value_extremes_of.Goals as goal

pub returns : goal.returns
returns g c = let rows = c.args.rows.now in c.by_value.ensures rows c.args.channel (length rows) c.in_ok-extremes_of.ensures
