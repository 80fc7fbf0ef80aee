use Rattle.std.proofs.Common.{◌≡◌, ◌≤◌, ◌+◌, ◌-◌, ◌*◌, ◌/◌, ◌++◌, length, map, take, drop, ap, ◌∙◌, arith, length-drop}
use Rattle.std.proofs.lemmas.List.{length-take, drop_all, append-nil}
use Rattle.byteorder.specs.Endian.{little_number}
use Rattle.comtrade_format.specs.Packed.{bits_at, group_bits}
use Rattle.comtrade_read.proofs.Outcomes.{part_is}
use Rattle.comtrade_c.specs.Tables.{bit_of}
use Rattle.comtrade_c.proofs.Flat.{group_laid, part_long}
use Rattle.comtrade_c.proofs.binary.put_row_bits.Goals as goal

pub loop-g-preserved : goal.loop-g-preserved
loop-g-preserved c =
    let bytes = c.args.bytes.now in
    let g = c.loop-g.g in
    let to = c.loop-g.to in
    let number = c.read_u16-group.ensures ∙ ap (little_number 2) (part_is (2 * g) bytes) in
    let room : 16 * g + 16 ≤ length to = omega (arith, c.loop-g-test.true, c.loop-g.auto.to) in
    let written : c.put_group.new.to ≡ map bit_of (group_bits 16 (little_number 2 (drop (2 * g) bytes))) =
    c.put_group.ensures ∙ ap (λ z. map bit_of (group_bits z c.read_u16-group.result)) (part_long (16 * g) 16 to room) ∙ ap (λ x. map bit_of (group_bits 16 x)) number in
    group_laid bytes to c.args.to.now c.put_group.new.to g 16 _ (omega arith) (omega arith) (omega (arith, room)) c.loop-g.invariant written
    ∙ ap (λ z. map bit_of (bits_at z bytes) ++ drop z c.args.to.now) (omega arith)

pub returns-then-at-to : goal.returns-then-at-to
returns-then-at-to c =
    let bytes = c.args.bytes.now in
    let to = c.loop-g.to in
    let all = length c.args.to.now in
    let w = all / 16 in
    let d = all - 16 * w in
    let here : c.loop-g.g ≡ w = omega (arith, c.loop-g-test.false, c.loop-g.auto.g-end) in
    let same : length to ≡ all = c.loop-g.auto.to in
    let number = c.read_u16-group-then-at-to.ensures ∙ ap (little_number 2) (part_is (2 * w) bytes) in
    let part : length (take (length to - 16 * w) (drop (16 * w) to)) ≡ d = omega (arith, length-take (length to - 16 * w) (drop (16 * w) to), length-drop (16 * w) to, same) in
    let written : c.put_group-then-at-to.new.to ≡ map bit_of (group_bits d (little_number 2 (drop (2 * w) bytes))) =
    c.put_group-then-at-to.ensures ∙ ap (λ z. map bit_of (group_bits z c.read_u16-group-then-at-to.result)) part ∙ ap (λ x. map bit_of (group_bits d x)) number in
    let whole : 16 * w + d ≡ all = omega arith in
    let laid = rw here at c.loop-g.invariant in
    group_laid bytes to c.args.to.now c.put_group-then-at-to.new.to w d _ (omega arith) (omega (arith, same)) (omega (arith, same)) laid written
    ∙ ap (λ z. map bit_of (bits_at z bytes) ++ drop z c.args.to.now) whole
    ∙ ap (λ l. map bit_of (bits_at all bytes) ++ l) (drop_all all c.args.to.now (omega arith)) ∙ append-nil (map bit_of (bits_at all bytes))
