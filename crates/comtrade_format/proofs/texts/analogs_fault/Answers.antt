use Rattle.std.proofs.Common.{◌+◌, sym, ap, ◌∙◌}
use Rattle.comtrade_format.specs.Refusals.{analog_refusal}
use Rattle.comtrade_format.proofs.Numbered.{first_from-pass, first_from-stop, first_from-end}
use Rattle.comtrade_format.proofs.texts.analogs_fault.Goals as goal

pub returns-in-Some : goal.returns-in-Some
returns-in-Some g c =
    let at = ap (analog_refusal (3 + c.loop-i.i)) (sym c.index-channels-i.is) ∙ sym c.analog_fault.ensures ∙ c.in-Some.is in
    sym (first_from-stop analog_refusal 3 c.args.channels.now c.loop-i.i c.index-channels-i.result c.in-Some.fault c.loop-i-test.true at) ∙ c.loop-i.invariant

pub loop-i-preserved : goal.loop-i-preserved
loop-i-preserved g c =
    let at = ap (analog_refusal (3 + c.loop-i.i)) (sym c.index-channels-i.is) ∙ sym c.analog_fault.ensures ∙ c.in_default.is in
    first_from-pass analog_refusal 3 c.args.channels.now c.loop-i.i c.index-channels-i.result c.loop-i-test.true at ∙ c.loop-i.invariant

pub returns : goal.returns
returns g c = sym (first_from-end analog_refusal (3 + c.loop-i.i) c.loop-i.i c.args.channels.now c.loop-i-test.false) ∙ c.loop-i.invariant
