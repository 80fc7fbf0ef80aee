use Rattle.std.proofs.Common.{◌≡◌, false, Option, Some, None, refl}
use Rattle.std.specs.Prelude.{is_some}
use Rattle.dfr_station.proofs.Orders.{takes_off}
use Rattle.dfr_station.proofs.desk.Office.take_off.Goals as goal
use Rattle.dfr_station.proofs.desk.Office.take_off.Goals.{in-Some+in-SetRules-1, in-Some+in-Trigger-1, in-None-1}

none_is : {X : Type 0} (o : Option X) → false ≡ is_some o → o ≡ None
none_is None h = refl
none_is (Some x) h = cc

pub returns-in-Ok : goal.returns-in-Ok
returns-in-Ok g c =
    let r = c.in-Ok.ensures.ring in
    let none = none_is _ c.if-is_some.ensures in
    elim c.match-self.branch [
      | in-Some+in-SetRules-1 w ↦ rw (← c.self.view_is, w.self-is) (takes_off _ _ c.in-Ok.placed (rw (r.0.0, r.0.1, r.0.2, r.0.3) refl) refl refl c.in-Ok.ensures.ok.0 none refl)
      | in-Some+in-Trigger-1 w ↦ rw (← c.self.view_is, w.self-is) (takes_off _ _ c.in-Ok.placed (rw (r.0.0, r.0.1, r.0.2, r.0.3) refl) refl refl c.in-Ok.ensures.ok.0 none refl)
      | in-None-1 w ↦ rw (← c.self.view_is, w.self-is) (takes_off _ _ c.in-Ok.placed (rw (r.0.0, r.0.1, r.0.2, r.0.3) refl) refl refl c.in-Ok.ensures.ok.0 none refl)
    ]
