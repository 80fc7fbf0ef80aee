use Rattle.std.proofs.Common.{◌+◌, sym, ◌∙◌}
use Rattle.comtrade_format.proofs.Numbered.{values_from-pass, values_from-stop, values_from-end, values_from-all}
use Rattle.comtrade_format.proofs.checks.values_fault.Goals as goal

pub returns-then-takes_all : goal.returns-then-takes_all
returns-then-takes_all c =
    sym (values_from-all c.args.m c.args.row 1 c.args.values.now (sym c.takes_all.ensures ∙ c.if-takes_all.true))

pub returns-then-not-takes_reading : goal.returns-then-not-takes_reading
returns-then-not-takes_reading c =
    sym (values_from-stop c.args.m c.args.row c.args.values.now c.loop-i.i _ c.loop-i-test.true (sym c.takes_reading.ensures ∙ c.if-not-takes_reading.true)) ∙ c.loop-i.invariant

pub loop-i-preserved : goal.loop-i-preserved
loop-i-preserved c =
    values_from-pass c.args.m c.args.row c.args.values.now c.loop-i.i _ c.loop-i-test.true (sym c.takes_reading.ensures ∙ c.if-not-takes_reading.false) ∙ c.loop-i.invariant

pub returns : goal.returns
returns c =
    sym (values_from-end c.args.m c.args.row (1 + c.loop-i.i) c.loop-i.i c.args.values.now c.loop-i-test.false) ∙ c.loop-i.invariant
