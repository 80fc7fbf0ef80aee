use Rattle.dfr_station.proofs.Tries.{tried_again, tried_stored, given_up}
use Rattle.dfr_station.proofs.outlet.Exports.keep_offering.Goals as goal

pub returns-in-Stored : goal.returns-in-Stored
returns-in-Stored g c =
    tried_stored g.K.Store.stores c.args.key (record { extent = c.args.extent; cfg = c.args.cfg.now; dat = c.args.dat.now }) c.args.self.now c.loop.self c.tried.new.self c.loop.invariant.2 c.in-Stored.ensures

pub returns-in-GivenUp : goal.returns-in-GivenUp
returns-in-GivenUp g c =
    given_up g.K.Store.stores c.args.key (record { extent = c.args.extent; cfg = c.args.cfg.now; dat = c.args.dat.now }) c.args.self.now c.loop.self c.tried.new.self c.loop.invariant.2 c.in-GivenUp.ensures

pub loop-preserved : goal.loop-preserved
loop-preserved g c =
    (tt, tt, tried_again g.K.Store.stores c.args.key (record { extent = c.args.extent; cfg = c.args.cfg.now; dat = c.args.dat.now }) c.args.self.now c.loop.self c.tried.new.self c.loop.invariant.2 c.in-Again.ensures)
