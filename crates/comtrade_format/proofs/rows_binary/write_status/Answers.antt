use Rattle.std.proofs.Common.{◌≡◌, ◌*◌, ◌+◌, ◌-◌, ◌/◌, arith, length, drop, sym, ◌∙◌, refl, ap}
use Rattle.std.proofs.lemmas.List.{take_all}
use Rattle.std.specs.List.{flat_map, range_with_len}
use borrow.Rule.Slice.PartMut.{mid_of, post_of}
use Rattle.byteorder.specs.Endian.{little_bytes}
use Rattle.comtrade_format.specs.Binary.{group_bytes, status_bytes}
use Rattle.comtrade_format.proofs.Groups.{group_step}
use Rattle.comtrade_format.proofs.rows_binary.write_status.Goals as goal

pub loop-i-preserved : goal.loop-i-preserved
unfolding group_bytes
loop-i-preserved c =
    let e : 2 * (c.loop-i.i + 1) ≡ 2 * c.loop-i.i + 2 = omega arith in
    let len = c.loop-i.auto.slot in
    let room = length c.loop-i.slot - 2 * c.loop-i.i in
    rw (e, c.write_u16.ensures)
    (group_step c.args.bits.now c.loop-i.slot _ (drop 2 (mid_of (2 * c.loop-i.i) room c.loop-i.slot)) (post_of (2 * c.loop-i.i) room c.loop-i.slot) c.loop-i.i (omega arith) refl (ap (λ n. little_bytes 2 n) c.group_at.ensures) c.loop-i.invariant)

pub returns : goal.returns
unfolding status_bytes
returns c =
    let len = c.loop-i.auto.slot in
    let done : c.loop-i.i ≡ (length c.args.bits.now + 15) / 16 = omega arith in
    sym (take_all (2 * c.loop-i.i) c.loop-i.slot (omega arith)) ∙ c.loop-i.invariant ∙ ap (λ n. flat_map (group_bytes c.args.bits.now) (range_with_len 0 n)) done
