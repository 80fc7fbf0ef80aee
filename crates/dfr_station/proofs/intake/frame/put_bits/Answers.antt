use Rattle.std.proofs.Common.{◌≡◌, ◌+◌, ◌-◌, ◌*◌, ◌/◌, ◌++◌, length, take, drop, ap, ◌∙◌, arith, length-drop}
use Rattle.std.proofs.lemmas.List.{take_all}
use Rattle.comtrade_format.specs.Packed.{bits_at, group_bits}
use Rattle.comtrade_format.proofs.PackedGroups.{group_behind}
use Rattle.dfr_station.proofs.intake.frame.put_bits.Goals as goal

pub loop-i-preserved : goal.loop-i-preserved
loop-i-preserved g c =
    let bytes = c.args.words.now in
    let i = c.loop-i.i in
    let n = 2 * i in
    let d = c.word_len-size.result in
    let sixteen : d ≡ 16 = omega (arith, c.word_len-size.ensures, c.loop-i-test.true) in
    let next : 16 * i + d ≡ 16 * (i + 1) = omega (arith, sixteen) in
    let t : take (length bytes - n) (drop n bytes) ≡ drop n bytes = take_all (length bytes - n) (drop n bytes) (omega (arith, length-drop n bytes)) in
    let joined : c.loop-i.bits.items ++ group_bits d c.read_u16-word.result ≡ bits_at (16 * i + d) bytes =
    rw (c.loop-i.invariant.items, c.read_u16-word.ensures, t) (group_behind bytes i d (omega (arith, sixteen))) in
    record {
      items = c.push_word.ensures.items ∙ joined ∙ ap (λ k. bits_at k bytes) next;
      len = omega (arith, c.push_word.ensures.len, c.loop-i.invariant.len, sixteen);
      room = omega (arith, c.push_word.ensures.capacity, c.loop-i.invariant.room);
    }

pub returns-then-left-eq0 : goal.returns-then-left-eq0
returns-then-left-eq0 g c =
    let all : 16 * c.loop-i.i ≡ c.args.count = omega (arith, c.if-left-eq0.true, c.loop-i-test.false, c.loop-i.auto.i-end) in
    rw c.loop-i.invariant.items (ap (λ k. bits_at k c.args.words.now) all)

pub returns : goal.returns
returns g c =
    let bytes = c.args.words.now in
    let w = c.args.count / 16 in
    let d = c.args.count - 16 * w in
    let n = 2 * w in
    let here : c.loop-i.i ≡ w = omega (arith, c.loop-i-test.false, c.loop-i.auto.i-end) in
    let all : 16 * w + d ≡ c.args.count = omega arith in
    let t : take (length bytes - n) (drop n bytes) ≡ drop n bytes = take_all (length bytes - n) (drop n bytes) (omega (arith, length-drop n bytes)) in
    let joined : c.loop-i.bits.items ++ group_bits d c.read_u16-last.result ≡ bits_at (16 * w + d) bytes =
    rw (c.loop-i.invariant.items, here, c.read_u16-last.ensures, t) (group_behind bytes w d (omega arith)) in
    c.push_word-2.ensures.items ∙ joined ∙ ap (λ k. bits_at k bytes) all
