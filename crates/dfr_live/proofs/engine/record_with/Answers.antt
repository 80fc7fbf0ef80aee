use Rattle.std.proofs.Common.{◌≡◌, ◌⊎◌, inl, inr, Option, Some, None, Result, Ok, Err, refl, sym, subst}
use Rattle.std.specs.Prelude.{IfSome}
use Rattle.dfr_live.specs.declared.outcome.OpenFault.{OpenFault}
use Rattle.dfr_live.specs.declared.outcome.OpenFault.TheVariants as refused
use Rattle.dfr_live.specs.declared.report.LiveFault.TheVariants as fault
use Rattle.dfr_live.specs.Calls.{memory_is_none}
use Rattle.dfr_live.specs.Causes.{HasCause}
use Rattle.dfr_live.specs.Devices.{GotFront}
use Rattle.dfr_recorder.specs.History.{Opening}
use Rattle.dfr_live.proofs.Placing.{has_cause}
use Rattle.dfr_live.proofs.engine.record_with.Goals as goal

-- the fault that is named is the one that came
named : {R : Type 0} (f : OpenFault → R) (e : OpenFault) (o : Option OpenFault) → o ≡ memory_is_none e → IfSome o (λ x. f e ≡ f x)
named f refused.Used o h = rw h refl
named f refused.Lane o h = rw h refl
named f refused.Seats o h = rw h refl
named f refused.Memory o h = rw h tt

-- it is the one that is named, or want of memory
which : (e : OpenFault) (o : Option OpenFault) → o ≡ memory_is_none e → (o ≡ Some e) ⊎ (e ≡ refused.Memory)
which refused.Used o h = inl h
which refused.Lane o h = inl h
which refused.Seats o h = inl h
which refused.Memory o h = inr refl

pub returns-clause-open : goal.returns-clause-open
returns-clause-open g c = named (λ (e : OpenFault). Err (fault.Open e)) c.in-Err.fault _ c.in-Err.ensures.fault

pub returns-clause-cause : goal.returns-clause-cause
returns-clause-cause g c = (refl, which c.in-Err.fault _ c.in-Err.ensures.fault)

pub returns-in-Ok-clause-front : goal.returns-in-Ok-clause-front
returns-in-Ok-clause-front g c =
    subst (λ (o : Opening). GotFront g.K.Outlet.puts g.K.Outlet.lacks o c.args.kind c.args.outlet.now c.record_named.new.outlet)
    c.in-Ok.ensures.opened.0 c.record_named.ensures.front

pub returns-in-Ok-clause-cause : goal.returns-in-Ok-clause-cause
returns-in-Ok-clause-cause g c =
    has_cause g.F.Intake.gives g.F.Intake.loses g.K.Outlet.puts g.K.Outlet.lacks _ _ c.args.kind _ (c.args.feed.now, c.args.desk.now, c.args.outlet.now)
    (c.record_named.new.feed, c.record_named.new.desk, c.record_named.new.outlet) c.record_named.result c.in-Ok.ensures.opened.0 c.record_named.ensures.cause
