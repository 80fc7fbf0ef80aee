use Rattle.std.proofs.Common.{refl, ap, subst, ◌∙◌}
use Rattle.std.specs.Prelude.{Some, None}
use Rattle.dfr_channels.specs.Parts.{SetupParts}
use Rattle.dfr_station.specs.Names.{IsNameOf}
use Rattle.dfr_station.specs.Storing.{Exporting}
use Rattle.dfr_station.proofs.Redating.{unchanged, changed_so, shows_none, shows_changes}
use Rattle.dfr_station.proofs.outlet.ExportsOutletRecording.put.Goals as goal

pub returns-in-None : goal.returns-in-None
returns-in-None g c = (
  refl,
  (
    c.key_of-key-in-None.result,
    None,
    shows_none c.args.self.now.dating c.args.extent,
    subst (λ (l : SetupParts). IsNameOf l None c.args.extent c.key_of-key-in-None.result) (ap (λ (e : Exporting _). e.dating.layout) (c.self-in-None.view_is ∙ c.shown.ensures.same)) c.key_of-key-in-None.ensures,
    record { extent = c.args.extent; cfg = c.args.cfg.now; dat = c.args.dat.now },
    unchanged c.args.self.now.dating _,
    rw c.shown.ensures.same at c.hand_on-in-None.ensures,
  ),
)

pub returns-in-Some : goal.returns-in-Some
returns-in-Some g c = (
  refl,
  (
    c.key_of-key.result,
    Some c.in-Some.redated,
    c.in-Some.ensures.dated,
    subst (λ (l : SetupParts). IsNameOf l (Some c.in-Some.redated) c.args.extent c.key_of-key.result) (ap (λ (e : Exporting _). e.dating.layout) (c.self.view_is ∙ c.shown.ensures.same)) c.key_of-key.ensures,
    record { extent = c.args.extent; cfg = c.in-Some.shown.items; dat = c.args.dat.now },
    rw c.in-Some.ensures.shown (changed_so c.args.self.now.dating (record { extent = c.args.extent; cfg = c.args.cfg.now; dat = c.args.dat.now }) c.in-Some.redated
        (shows_changes c.args.self.now.dating c.args.extent c.in-Some.redated c.in-Some.ensures.dated)),
    rw (c.shown.ensures.same, c.deref.ensures.value) at c.hand_on.ensures,
  ),
)
