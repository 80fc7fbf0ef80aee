use Rattle.std.proofs.Common.{◌≡◌, Option, Some, sym, ◌∙◌}
use Rattle.comtrade_format.specs.declared.fault.WriteFault.{WriteFault}
use Rattle.comtrade_format.specs.declared.fault.WriteFault.TheVariants as fault
use Rattle.comtrade_format.specs.Refusals.{Fails}
use Rattle.comtrade_format.proofs.Refusals.{cfg_shaped, shaped_parts}
use Rattle.comtrade_format.proofs.bytes.cfg_bytes.Goals as goal

fails_so : (e : WriteFault) (r : Option WriteFault) → r ≡ Some e → Fails e r
fails_so fault.Shape r h = h
fails_so (fault.Text line field) r h = h
fails_so (fault.Value row field) r h = h
fails_so (fault.Stamp row) r h = h
fails_so fault.Memory r h = tt

pub returns-in-Some : goal.returns-in-Some
returns-in-Some g c = fails_so _ _ (sym c.cfg_fault.ensures ∙ c.in-Some.is)

pub cfg_text-requires : goal.cfg_text-requires
cfg_text-requires g c =
    let p = shaped_parts _ (cfg_shaped _ (sym c.cfg_fault.ensures ∙ c.in_default.is)) in
    rw c.head_of.ensures p.head
