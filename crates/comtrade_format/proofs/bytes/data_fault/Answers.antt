use Rattle.std.proofs.Common.{sym, ◌∙◌}
use Rattle.comtrade_format.proofs.Refusals.{data_unshaped, data_shaped, shaped_parts, head_parts, k_few}
use Rattle.comtrade_format.proofs.bytes.data_fault.Goals as goal

pub returns-then-not-is_shaped : goal.returns-then-not-is_shaped
returns-then-not-is_shaped g c = sym (data_unshaped _ _ (sym c.is_shaped.ensures ∙ c.if-not-is_shaped.true))

pub rows_fault-requires : goal.rows_fault-requires
rows_fault-requires g c =
    let p = shaped_parts _ (sym c.is_shaped.ensures ∙ c.if-not-is_shaped.false) in
    let few = k_few _ _ (head_parts _ p.head).channels in
    rw (c.rows_of.ensures, c.analog_of.ensures, c.status_of.ensures, c.head_of-head.ensures) (record { few = few; shaped = p.rows })

pub returns : goal.returns
returns g c = rw (c.rows_of.ensures) at c.rows_fault.ensures ∙ sym (data_shaped _ _ (sym c.is_shaped.ensures ∙ c.if-not-is_shaped.false))
