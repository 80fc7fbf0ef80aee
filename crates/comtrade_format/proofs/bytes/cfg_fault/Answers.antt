use Rattle.std.proofs.Common.{sym, ◌∙◌, ap}
use Rattle.comtrade_format.specs.Refusals.{text_refusal}
use Rattle.comtrade_format.proofs.Refusals.{cfg_unshaped, cfg_from_shaped, shaped_parts, head_parts, channels_few}
use Rattle.comtrade_format.proofs.bytes.cfg_fault.Goals as goal

pub returns-then-not-is_shaped : goal.returns-then-not-is_shaped
returns-then-not-is_shaped g c = sym (cfg_unshaped _ (sym c.is_shaped.ensures ∙ c.if-not-is_shaped.true))

pub first_text-requires : goal.first_text-requires
first_text-requires g c =
    let p = shaped_parts _ (sym c.is_shaped.ensures ∙ c.if-not-is_shaped.false) in
    rw c.head_of.ensures (channels_few _ _ (head_parts _ p.head).channels)

pub returns : goal.returns
returns g c = c.first_text.ensures ∙ ap text_refusal c.head_of.ensures ∙ sym (cfg_from_shaped _ (sym c.is_shaped.ensures ∙ c.if-not-is_shaped.false))
