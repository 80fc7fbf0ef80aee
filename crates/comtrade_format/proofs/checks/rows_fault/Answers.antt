use Rattle.std.proofs.Common.{◌+◌, sym, ap, ◌∙◌}
use Rattle.comtrade_format.specs.Parts.{RowParts}
use Rattle.comtrade_format.specs.Refusals.{values_refusal}
use Rattle.comtrade_format.proofs.Numbered.{rows_pass, rows_stop, rows_end}
use Rattle.comtrade_format.proofs.checks.rows_fault.Goals as goal

pub returns-in-Some : goal.returns-in-Some
returns-in-Some g c =
    let at = ap (λ (r : RowParts). values_refusal c.args.m (1 + c.loop-i.i) r.values) (sym c.index-rows-i.is)
    ∙ ap (values_refusal c.args.m (1 + c.loop-i.i)) (sym c.values_of.ensures) ∙ sym c.values_fault.ensures ∙ c.in-Some.is in
    sym (rows_stop c.args.m c.args.rows.now c.loop-i.i c.index-rows-i.result c.loop-i.late c.in-Some.fault c.loop-i-test.true at) ∙ c.loop-i.invariant

pub loop-i-preserved : goal.loop-i-preserved
loop-i-preserved g c =
    let at = ap (λ (r : RowParts). values_refusal c.args.m (1 + c.loop-i.i) r.values) (sym c.index-rows-i.is)
    ∙ ap (values_refusal c.args.m (1 + c.loop-i.i)) (sym c.values_of.ensures) ∙ sym c.values_fault.ensures ∙ c.in_default.is in
    let next = rows_pass c.args.m c.args.rows.now c.loop-i.i c.index-rows-i.result c.loop-i.late c.loop-i-test.true at in
    rw (c.with_stamp-late.ensures, c.index-rows-i.is) (next ∙ c.loop-i.invariant)

pub returns : goal.returns
returns g c = sym (rows_end c.args.m (1 + c.loop-i.i) c.loop-i.i c.args.rows.now c.loop-i.late c.loop-i-test.false) ∙ c.loop-i.invariant
