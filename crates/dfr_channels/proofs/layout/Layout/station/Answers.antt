use Rattle.std.proofs.Common.{rules, tests}
use Rattle.dfr_channels.proofs.layout.Layout.station.Goals as goal

pub returns : goal.returns
returns g c = search (tests, rules)
