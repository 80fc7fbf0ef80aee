use Rattle.std.proofs.Common.{◌∙◌, arith}
use Rattle.comtrade_read.proofs.PlainRows.{first_bit, written}
use Rattle.comtrade_read.proofs.plain_rows.write_bits.Goals as goal

pub loop-i-init : goal.loop-i-init
loop-i-init c = first_bit c.args.text.now c.args.count c.requires.bits c.requires.room c.args.slot.now

pub loop-i-preserved : goal.loop-i-preserved
loop-i-preserved c =
    let len = c.loop-i.auto.slot ∙ c.requires.many in
    written c.args.text.now c.args.count c.requires.bits c.requires.room c.loop-i.slot c.loop-i.i (omega (arith, len, c.loop-i-test.true)) c.loop-i-test.true c.loop-i.invariant
