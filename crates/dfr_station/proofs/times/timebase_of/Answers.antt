use Rattle.dfr_station.proofs.Settled.{fits}
use Rattle.dfr_station.proofs.times.timebase_of.Goals as goal

pub new-requires-clause-fits : goal.new-requires-clause-fits
new-requires-clause-fits g c = rw c.settings_at.ensures (fits c.args.rate c.args.gap c.requires.rate.0 c.requires.rate.1)
