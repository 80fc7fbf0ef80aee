use Rattle.std.proofs.Common.{refl}
use Rattle.dfr_live.proofs.Placing.{tried_more, tried_put}
use Rattle.dfr_live.proofs.export.put_record.Goals as goal

pub loop-preserved : goal.loop-preserved
loop-preserved g c =
    (tt, tt, tried_more g.K.Outlet.puts g.K.Outlet.lacks c.args.layout.now c.args.kind c.args.outlet.now c.loop.outlet c.no_memory.new.self c.extent-in-loop.result c.args.taken.now.extent c.no_memory.result c.loop.invariant.2.0 c.loop.invariant.2.1 c.no_memory.ensures c.extent-in-loop.ensures.value c.in-Again.is)

pub returns-in-Ok : goal.returns-in-Ok
returns-in-Ok g c =
    tried_put g.K.Outlet.puts g.K.Outlet.lacks c.args.layout.now c.args.kind c.args.outlet.now c.loop.outlet c.put_files.new.outlet c.args.taken.now c.loop.invariant.2.0
    (record { extent = c.extent.result; cfg = c.deref.result.now; dat = c.deref-in-Ok.result.now }) c.put_files.result
    c.loop.invariant.2.1 c.put_files.ensures
    (rw (c.extent.ensures.value, c.deref.ensures.value, c.deref-in-Ok.ensures.value, c.in-Ok.ensures.cfg, c.in-Ok.ensures.dat) refl)
