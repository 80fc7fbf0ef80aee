use Rattle.std.proofs.Common.{◌≡◌, ◌*◌, ◌+◌, ◌-◌, arith, length, drop, sym, ◌∙◌}
use Rattle.std.proofs.lemmas.List.{take_all}
use borrow.Rule.Slice.PartMut.{mid_of, post_of}
use Rattle.comtrade_format.proofs.Places.{bit_step}
use Rattle.comtrade_format.proofs.rows_ascii.write_bits.Goals as goal

pub loop-i-preserved : goal.loop-i-preserved
loop-i-preserved c =
    let e : 2 * (c.loop-i.i + 1) ≡ 2 * c.loop-i.i + 2 = omega arith in
    let len = c.loop-i.auto.slot in
    let room = length c.loop-i.slot - 2 * c.loop-i.i in
    rw (e, c.write_u16.ensures)
    (bit_step c.args.bits.now c.loop-i.slot _ (drop 2 (mid_of (2 * c.loop-i.i) room c.loop-i.slot)) (post_of (2 * c.loop-i.i) room c.loop-i.slot) c.loop-i.i (omega arith) (omega arith) c.bit_word.ensures c.loop-i.invariant)

pub returns : goal.returns
returns c =
    let len = c.loop-i.auto.slot in
    let done : c.loop-i.i ≡ length c.args.bits.now = omega arith in
    sym (take_all (2 * c.loop-i.i) c.loop-i.slot (omega arith)) ∙ rw (take_all c.loop-i.i c.args.bits.now (omega arith)) at c.loop-i.invariant
