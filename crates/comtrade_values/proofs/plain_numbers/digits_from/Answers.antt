use Rattle.std.proofs.Common.{ℕ, ◌-◌, ◌<◌, List, get_or, take, sym, ◌∙◌, arith, refl}
use Rattle.std.proofs.lemmas.List.{take_more}
use Rattle.comtrade_values.proofs.Capped.{digit_is}
use Rattle.comtrade_values.proofs.PlainNumbers.{digits_more, value_more, room}
use Rattle.comtrade_values.proofs.Short.{digit_few}
use Rattle.comtrade_values.proofs.plain_numbers.digits_from.Goals as goal

pub overflow_mul-number : goal.overflow_mul-number
overflow_mul-number c =
    let below : c.loop-count.count < 10 = omega (arith, c.loop-count-test.true, c.loop-count.invariant.ten) in
    let r = room c.loop-count.number c.loop-count.count 0 c.loop-count.invariant.small below (omega arith) in
    omega (arith, r.0)

pub overflow_add-number : goal.overflow_add-number
overflow_add-number c =
    let below : c.loop-count.count < 10 = omega (arith, c.loop-count-test.true, c.loop-count.invariant.ten) in
    let digit = sym c.is_ascii_digit.ensures.value ∙ c.if-not-is_ascii_digit.false in
    let d : ℕ = get_or c.args.text.now c.loop-count.count 0 in
    let few : d - 48 < 10 = digit_few d digit in
    let r = room c.loop-count.number c.loop-count.count (d - 48) c.loop-count.invariant.small below few in
    omega (arith, r.0)

pub loop-count-preserved : goal.loop-count-preserved
loop-count-preserved c =
    let below : c.loop-count.count < 10 = omega (arith, c.loop-count-test.true, c.loop-count.invariant.ten) in
    let text : List ℕ = c.args.text.now in
    let i : ℕ = c.loop-count.count in
    let digit = sym c.is_ascii_digit.ensures.value ∙ c.if-not-is_ascii_digit.false in
    let more = take_more text i 0 (omega arith) in
    let d : ℕ = get_or text i 0 in
    let few : d - 48 < 10 = digit_few d digit in
    let r = room c.loop-count.number i (d - 48) c.loop-count.invariant.small below few in
    record {
      few = omega arith;
      ten = c.loop-count.invariant.ten;
      within = c.loop-count.invariant.within;
      digits = rw more (digits_more (take i text) d c.loop-count.invariant.digits digit);
      value = rw (more, value_more (take i text) d 0, ← c.loop-count.invariant.value, digit_is d digit) refl;
      small = r.1;
    }
