use Rattle.std.proofs.Common.{◌≡◌, ◌-◌, ◌≤◌, ◌++◌, length, take, drop, ap, ◌∙◌, arith, length-append, length-drop}
use Rattle.std.specs.Vec.{with_items}
use Rattle.std.proofs.lemmas.List.{length-take-le, with_items_is}
use Rattle.dfr_station.proofs.Behind.{put_behind}
use Rattle.dfr_station.proofs.intake.buffer.Buffer.take_from.Goals as goal

pub returns-clause-bytes : goal.returns-clause-bytes
returns-clause-bytes g c =
    let v = c.self.inside.bytes in
    let m = c.move_up-self-inside.result in
    let n = c.pop_partial_slice-count.result in
    let moved = c.move_up-self-inside.new.bytes in
    let now = c.deref_mut-2.result.now in
    let room = c.pop_partial_slice-count.new.slice in
    let same : now ≡ moved = c.deref_mut-2.ensures.value ∙ with_items_is v moved (omega arith) in
    let waits : take m now ≡ c.args.self.now = ap (take m) same ∙ (rw c.move_up-self-inside.ensures.count c.move_up-self-inside.ensures.moved) ∙ ap (λ b. take (c.self.inside.end - c.self.inside.from) (drop c.self.inside.from b)) c.deref_mut.ensures.value ∙ c.self.view_is in
    let few : n ≤ length room = omega (arith, c.pop_partial_slice-count.ensures.received.0) in
    let front : length (take m now) ≡ m = length-take-le m now (omega arith) in
    let written = with_items_is (with_items v moved) (take m now ++ (room ++ drop (length now - m) (drop m now))) (simp (length-append, length-drop) (omega arith)) in (
      take n room,
      length-take-le n room few,
      rw written (put_behind m n (take m now) room _ front few ∙ ap (λ w. w ++ take n room) waits),
      c.pop_partial_slice-count.ensures.received.1,
    )
