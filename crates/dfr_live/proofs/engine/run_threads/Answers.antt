use Rattle.std.proofs.Common.{rules}
use Rattle.dfr_live.proofs.Placing.{some_has, err_has, Fails, one_failed, trigger_not_started, acquisition_not_started, handed_up}
use Rattle.dfr_live.proofs.engine.run_threads.Goals as goal

pub returns-in_default-clause-cause : goal.returns-in_default-clause-cause
returns-in_default-clause-cause g c =
    let exported = c.in_three_threads-exported.ensures.first in
    let h = trigger_not_started g.F.Intake.gives g.F.Intake.loses g.K.Outlet.puts g.K.Outlet.lacks c.args.shared.now c.args.kind c.args.feed.now c.args.outlet.now c.match-acquired.feed c.in_three_threads-exported.result.0.device.now c.not_started.result c.fault_in.result c.in_three_threads-exported.result.0.outcome
    c.not_started.ensures.fault c.fault_in.ensures exported.4 in
    search (rules, h)

pub returns-in_default-acquired-clause-cause : goal.returns-in_default-acquired-clause-cause
returns-in_default-acquired-clause-cause g c =
    let exported = c.in_three_threads-exported.ensures.first in
    let triggered = some_has _ _ _ c.in-Some.is c.in_three_threads-exported.ensures.second in
    let h = acquisition_not_started g.F.Intake.gives g.F.Intake.loses g.K.Outlet.puts g.K.Outlet.lacks c.args.shared.now c.args.kind c.args.feed.now c.args.outlet.now c.feed-in_default-acquired-1.given c.in_three_threads-exported.result.0.device.now c.not_started-in_default-acquired.result c.fault_in-in_default-acquired.result c.fault_in-in_default-acquired-2.result c.in-Some.triggered.outcome c.in_three_threads-exported.result.0.outcome
    c.not_started-in_default-acquired.ensures.fault c.fault_in-in_default-acquired.ensures c.fault_in-in_default-acquired-2.ensures triggered.3 exported.4 in
    search (rules, h)

pub returns-in_err-first_of-clause-cause : goal.returns-in_err-first_of-clause-cause
returns-in_err-first_of-clause-cause g c =
    let exported = c.in_three_threads-exported.ensures.first in
    let triggered = some_has _ _ _ c.in-Some.is c.in_three_threads-exported.ensures.second in
    let acquired = some_has _ _ _ c.in-Some-acquired.is c.in_three_threads-exported.ensures.third in
    let why = one_failed g.F.Intake.gives g.F.Intake.loses g.K.Outlet.puts g.K.Outlet.lacks c.args.shared.now c.args.kind c.args.feed.now c.args.outlet.now c.in-Some-acquired.acquired.device.now c.in_three_threads-exported.result.0.device.now c.first_of.result c.in-Some-acquired.acquired.outcome c.in-Some.triggered.outcome c.in_three_threads-exported.result.0.outcome
    c.first_of.ensures acquired.3 triggered.3 exported.4 in
    let here = err_has (Fails g.F.Intake.gives g.F.Intake.loses g.K.Outlet.puts g.K.Outlet.lacks c.args.shared.now c.args.kind c.args.feed.now c.args.outlet.now c.in-Some-acquired.acquired.device.now c.in_three_threads-exported.result.0.device.now) c.first_of.result c.in_err-first_of.field-0.0 c.in_err-first_of.was why in
    let h = handed_up c.from_residual.result c.in_err-first_of.field-0.0 (Fails g.F.Intake.gives g.F.Intake.loses g.K.Outlet.puts g.K.Outlet.lacks c.args.shared.now c.args.kind c.args.feed.now c.args.outlet.now c.in-Some-acquired.acquired.device.now c.in_three_threads-exported.result.0.device.now) c.from_residual.ensures.1 here in
    search (rules, h)
