use Rattle.std.proofs.Common.{◌≡◌, ◌*◌, ◌+◌, ◌-◌, arith, length, drop, sym, ◌∙◌, refl, ap, pos}
use Rattle.std.proofs.lemmas.List.{take_all}
use Rattle.byteorder.specs.Endian.{little_bytes}
use borrow.Rule.Slice.PartMut.{mid_of, post_of}
use Rattle.byteorder.proofs.Slices.{write_step}
use Rattle.dfr_channels.specs.declared.scan.Reading.TheVariants.{Value}
use Rattle.comtrade_format.specs.Binary.{reading_number}
use Rattle.comtrade_format.specs.Refusals.{binary_bounds, takes_reading}
use Rattle.comtrade_format.proofs.Numbered.{all_at}
use Rattle.comtrade_format.proofs.rows_binary.write_readings.Goals as goal

pub word_of-requires : goal.word_of-requires
word_of-requires c = all_at (takes_reading binary_bounds) c.args.readings.now c.loop-i.i _ (omega arith) c.requires.taken

pub loop-i-preserved : goal.loop-i-preserved
loop-i-preserved c =
    let e : 2 * (c.loop-i.i + 1) ≡ 2 * c.loop-i.i + 2 = omega arith in
    let len = c.loop-i.auto.slot in
    let room = length c.loop-i.slot - 2 * c.loop-i.i in
    rw (e, c.write_u16.ensures)
    (write_step (λ v. little_bytes 2 (reading_number v)) 2 c.args.readings.now (Value (pos 0)) c.loop-i.slot _ (drop 2 (mid_of (2 * c.loop-i.i) room c.loop-i.slot)) (post_of (2 * c.loop-i.i) room c.loop-i.slot) c.loop-i.i (omega arith) (omega arith) refl (ap (λ n. little_bytes 2 n) c.word_of.ensures) c.loop-i.invariant)

pub returns : goal.returns
returns c =
    let len = c.loop-i.auto.slot in
    let done : c.loop-i.i ≡ length c.args.readings.now = omega arith in
    sym (take_all (2 * c.loop-i.i) c.loop-i.slot (omega arith)) ∙ rw (take_all c.loop-i.i c.args.readings.now (omega arith)) at c.loop-i.invariant
