use Rattle.std.proofs.Common.{ap, sym, ◌∙◌}
use Rattle.comtrade_format.specs.declared.bounds.Bounds.{Bounds}
use Rattle.comtrade_format.specs.Refusals.{data_refusal, ascii_bounds}
use Rattle.comtrade_format.proofs.Refusals.{data_unshaped, data_shaped}
use Rattle.comtrade_format.proofs.bytes.ascii_bytes.Goals as goal

pub returns-then-not-is_shaped : goal.returns-then-not-is_shaped
returns-then-not-is_shaped g c = data_unshaped _ _ (sym c.is_shaped.ensures ∙ c.if-not-is_shaped.true)

pub returns-in-Some : goal.returns-in-Some
returns-in-Some g c =
    let shaped = data_shaped ascii_bounds c.args.file.now (sym c.is_shaped.ensures ∙ c.if-not-is_shaped.false) in
    let t = rw (c.in-Some.is) at c.in_ok-text.ensures in
    (shaped ∙ t.0, t.1)

pub unreachable-requires : goal.unreachable-requires
unreachable-requires g c =
    let shaped = data_shaped ascii_bounds c.args.file.now (sym c.is_shaped.ensures ∙ c.if-not-is_shaped.false) in
    let none = ap (λ (m : Bounds). data_refusal m c.args.file.now) (sym c.ascii_bounds.ensures) ∙ sym c.data_fault.ensures ∙ c.in-None.is in
    let t = rw (c.in_default.is) at c.in_ok-text.ensures in
    t (sym shaped ∙ none)
