use Rattle.std.proofs.Common.{◌≡◌, ℕ, ◌<◌, ◌+◌, Ok, take, length, arith, ap, sym, ◌∙◌}
use Rattle.std.proofs.lemmas.List.{take_more_set}
use Rattle.std.proofs.lemmas.Result.{err_from_is_err_and}
use Rattle.dfr_bus.proofs.Asdus.{goes_on, fails_outside, fails_inside, is_done, is_trailing}
use Rattle.dfr_bus.proofs.pdu.asdus_at.Goals as goal

pub returns-in_err-content : goal.returns-in_err-content
returns-in_err-content c =
    let p = err_from_is_err_and c.from_residual.result c.from_residual.ensures.1 in
    rw (p.1, p.2) (fails_outside _ _ _ _ _ _ _ _ c.loop-i-test.true (sym c.in_err-content.ensures.exact) c.loop-i.invariant.so_far)

pub returns-in_err-places : goal.returns-in_err-places
returns-in_err-places c =
    let p = err_from_is_err_and c.from_residual-in_err-places.result c.from_residual-in_err-places.ensures.1 in
    rw (p.1, p.2) (fails_inside _ _ _ _ _ _ _ _ _ c.loop-i-test.true (sym c.in_ok-content.ensures.exact) (sym c.in_err-places.ensures) c.loop-i.invariant.so_far)

pub loop-i-preserved : goal.loop-i-preserved
loop-i-preserved c =
    let room : c.loop-i.i < length c.loop-i.places = omega (arith, c.requires.room, c.loop-i.auto.places, c.loop-i-test.true) in
    let front = take_more_set c.loop-i.places c.loop-i.i c.in_ok-places.field-0 room in
    record {
      so_far = rw front (goes_on _ _ _ _ _ _ _ _ _ c.loop-i-test.true (sym c.in_ok-content.ensures.exact) (sym c.in_ok-places.ensures) c.loop-i.invariant.so_far);
      place = omega (arith, c.in_ok-content.ensures.inside);
    }

pub returns-then-place-end : goal.returns-then-place-end
returns-then-place-end c =
    rw c.fault_at.ensures (is_trailing _ _ _ _ _ _ _ c.loop-i-test.false c.if-place-end.true c.loop-i.invariant.so_far)

pub returns : goal.returns
returns c =
    let n : c.loop-i.i ≡ c.args.count = omega (arith, c.loop-i-test.false, c.loop-i.auto.i-end) in
    is_done _ _ _ _ _ _ _ c.loop-i-test.false c.if-place-end.false c.loop-i.invariant.so_far ∙ ap (λ i. Ok (take i c.loop-i.places)) n
