use Rattle.std.proofs.Common.{◌≡◌, Option, inl, ap, subst, ◌∙◌}
use Rattle.std.specs.Prelude.{IfSome}
use Rattle.dfr_live.specs.Devices.{FilesParts, files_of}
use Rattle.dfr_station.specs.Dated.{Changes, changed_cfg}
use Rattle.dfr_station.specs.declared.shown.Redated.{Redated}
use Rattle.dfr_station.proofs.Redating.{files_under}
use Rattle.dfr_station.proofs.finish.hand_over.Goals as goal

pub returns-in-Ok-shown_cfg : goal.returns-in-Ok-shown_cfg
returns-in-Ok-shown_cfg g c =
    let layout = c.args.layout.now in
    let kind = c.args.kind in
    let taken = c.args.taken.now in
    let r : Redated = c.in-Some.redated in
    let changes : Changes layout taken.extent r = subst (λ (o : Option Redated). IfSome o (λ x. Changes layout taken.extent x)) c.in-Some.is c.requires.redated in
    let cfg : c.as_slice-in-Ok-shown_cfg.result.now ≡ changed_cfg kind r (files_of layout kind taken).cfg =
    c.as_slice-in-Ok-shown_cfg.ensures.value ∙ c.in-Ok-shown_cfg.ensures ∙ ap (changed_cfg kind r) (c.as_slice-in-Some.ensures.value ∙ c.in-Ok.ensures.cfg) in
    let dat : c.as_slice-in-Ok-shown_cfg-2.result.now ≡ (files_of layout kind taken).dat = c.as_slice-in-Ok-shown_cfg-2.ensures.value ∙ c.in-Ok.ensures.dat in
    let asked = rw (cfg, dat) at c.put-in-Ok-shown_cfg.ensures in
    rw c.in-Some.is (inl (subst (λ (f : FilesParts). g.K.Store.stores c.args.store.now c.args.key f.cfg f.dat c.put-in-Ok-shown_cfg.result c.put-in-Ok-shown_cfg.new.self)
    (files_under layout kind taken r changes) asked))
