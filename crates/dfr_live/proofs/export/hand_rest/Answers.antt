use Rattle.std.proofs.Common.{refl}
use Rattle.dfr_live.specs.declared.report.LiveFault.{LiveFault}
use Rattle.dfr_live.specs.Devices.{GotAll, GotFront}
use Rattle.dfr_live.specs.Causes.{ExportFails}
use Rattle.dfr_live.proofs.Placing.{on-still, front_of_all, front_fails, export_fails, handed_up}
use Rattle.dfr_live.proofs.export.hand_rest.Goals as goal

pub loop-init : goal.loop-init
loop-init g c = (tt, tt, on-still g.K.Outlet.puts g.K.Outlet.lacks g.N.Session.opening c.args.kind c.args.outlet.now c.args.outlet.now c.args.token.now c.args.token.now c.args.gone.now c.args.gone.now refl refl refl)

pub returns-in_err-hand_last-clause-fault : goal.returns-in_err-hand_last-clause-fault
returns-in_err-hand_last-clause-fault g c =
    let came = c.in_err-hand_last in
    let p = g.K.Outlet.puts in
    let l = g.K.Outlet.lacks in
    let o = g.N.Session.opening in
    handed_up c.from_residual.result came.field-0.0
    (λ (why : LiveFault). (first : g.row.K.Denot)
    → GotAll g.K.Outlet.puts g.K.Outlet.lacks g.N.Session.opening c.args.kind first c.args.token.now.made c.args.gone.now c.args.outlet.now
    → ExportFails g.K.Outlet.puts g.K.Outlet.lacks g.N.Session.opening c.args.kind first why c.hand_last.new.outlet
    × GotFront g.K.Outlet.puts g.K.Outlet.lacks g.N.Session.opening c.args.kind first c.hand_last.new.outlet)
    c.from_residual.ensures.1
    (λ first all.
    let far = c.loop.invariant.2.2 first all in (
      export_fails p l o c.args.kind first c.loop.outlet c.hand_last.new.outlet c.loop.token.made c.loop.gone came.field-0.0 far came.ensures.fault,
      front_fails p l o c.args.kind first c.loop.outlet c.hand_last.new.outlet c.loop.token.made c.loop.gone came.field-0.0 far came.ensures.fault,
    ))

pub returns-in-Stopped-clause-fault : goal.returns-in-Stopped-clause-fault
returns-in-Stopped-clause-fault g c =
    λ first all. (
      tt,
      front_of_all g.K.Outlet.puts g.K.Outlet.lacks g.N.Session.opening c.args.kind first c.hand_last.new.outlet c.hand_last.new.token.made c.hand_last.new.gone
          (c.in_ok-hand_last.ensures.on.2 first (c.loop.invariant.2.2 first all)),
    )
