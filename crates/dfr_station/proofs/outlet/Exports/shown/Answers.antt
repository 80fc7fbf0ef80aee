use Rattle.dfr_station.proofs.Redating.{shows_changes, writable_changes}
use Rattle.dfr_station.proofs.outlet.Exports.shown.Goals as goal

pub changed-requires-clause-was : goal.changed-requires-clause-was
changed-requires-clause-was g c = (writable_changes c.args.self.now.dating.layout c.args.extent c.in_ok-redated.redated (shows_changes c.args.self.now.dating c.args.extent c.in_ok-redated.redated c.in_ok-redated.ensures)).0

pub changed-requires-clause-is : goal.changed-requires-clause-is
changed-requires-clause-is g c = (writable_changes c.args.self.now.dating.layout c.args.extent c.in_ok-redated.redated (shows_changes c.args.self.now.dating c.args.extent c.in_ok-redated.redated c.in_ok-redated.ensures)).1
