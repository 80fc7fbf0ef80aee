use Rattle.std.proofs.Common.{refl}
use Rattle.dfr_live.proofs.Placing.{got_first, no_takes, front_of_all, front_fails, export_fails}
use Rattle.dfr_live.proofs.export.export.Goals as goal

pub loop-init : goal.loop-init
loop-init g c =
    (tt, tt, refl, refl, got_first g.K.Outlet.puts g.K.Outlet.lacks c.args.shared.now c.args.kind c.args.outlet.now c.args.token.now c.args.gone.now c.requires.new.0 c.requires.new.1, no_takes c.args.token.now.made c.requires.new.0)

pub returns-in-Stopped-clause-front : goal.returns-in-Stopped-clause-front
returns-in-Stopped-clause-front g c =
    front_of_all g.K.Outlet.puts g.K.Outlet.lacks c.args.shared.now c.args.kind c.args.outlet.now c.hand_on.new.outlet c.hand_on.new.token.made c.hand_on.new.gone (c.in_ok-hand_on.ensures.on.2 c.args.outlet.now c.loop.invariant.4)
